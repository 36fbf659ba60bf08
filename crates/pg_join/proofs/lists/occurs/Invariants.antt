use Rattle.std.proofs.Common.{◌≡◌, drop}
use Rattle.pg_join.specs.Joining.{occurs}
use Rattle.pg_join.proofs.lists.occurs.Given as goal

abbrev pub invariant-loop-path : goal.invariant-loop-path
invariant-loop-path l = occurs l.paths l.var ≡ occurs (drop l.path-index l.paths) l.var
