use Rattle.std.proofs.Common.{◌≡◌, ◌∷◌, take}
use Rattle.pg_core.proofs.carry.listed.Given as goal

abbrev pub invariant-loop-other : goal.invariant-loop-other
invariant-loop-other g l = l.all ≡ l.fn.first ∷ take l.other-index l.fn.others
