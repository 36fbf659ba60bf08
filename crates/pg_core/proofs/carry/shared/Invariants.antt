use Rattle.std.proofs.Common.{◌≡◌, take}
use Rattle.pg_core.proofs.carry.shared.Given as goal

abbrev pub invariant-loop-run : goal.invariant-loop-run
invariant-loop-run g l = l.all ≡ take l.run-index l.fn.runs
