use Rattle.std.proofs.Common.{◌≡◌, filter, take}
use Rattle.pg_join.specs.Joining.{occurs}
use Rattle.pg_join.proofs.lists.shared_variables.Given as goal

abbrev pub invariant-loop-var : goal.invariant-loop-var
invariant-loop-var l = l.vars ≡ filter (occurs l.before) (take l.var-index l.path.vars)
