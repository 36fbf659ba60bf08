use Rattle.std.proofs.Common.{◌≡◌, take}
use Rattle.pg_check.proofs.resolve.copy_arrows.Given as goal

abbrev pub invariant-loop-arrow : goal.invariant-loop-arrow
invariant-loop-arrow l = l.out ≡ take l.arrow-index l.arrows
