use Rattle.std.proofs.Common.{◌≡◌, ◌++◌}
use Rattle.pg_join.proofs.searching.push_bindings.Given as goal

abbrev pub invariant-loop-binding : goal.invariant-loop-binding
invariant-loop-binding l = l.all ≡ l.fn.all ++ l.yielded
