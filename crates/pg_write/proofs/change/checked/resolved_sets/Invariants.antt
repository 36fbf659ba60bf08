use Rattle.std.proofs.Common.{◌≡◌}
use Rattle.std.proofs.Common.{take, map}
use Rattle.pg_rules.specs.Changes.{resolved_set}
use Rattle.pg_write.proofs.change.checked.resolved_sets.Given as goal

abbrev pub invariant-loop-set : goal.invariant-loop-set
invariant-loop-set l = l.out ≡ map (resolved_set l.columns) (take l.set-index l.sets)
