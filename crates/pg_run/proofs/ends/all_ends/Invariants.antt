use Rattle.std.proofs.Common.{◌≡◌, take, map}
use Rattle.pg_run.specs.Runs.{ends_given}
use Rattle.pg_run.specs.Cuts.{joined}
use Rattle.pg_run.proofs.ends.all_ends.Given as goal

abbrev pub invariant-loop-shape : goal.invariant-loop-shape
invariant-loop-shape l = l.all ≡ map (λ shape. ends_given shape (joined l.lists)) (take l.shape-index l.shapes)
