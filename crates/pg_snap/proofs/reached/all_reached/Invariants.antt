use Rattle.std.proofs.Common.{◌≡◌, take}
use Rattle.pg_snap.specs.Under.{plains}
use Rattle.pg_snap.proofs.reached.all_reached.Given as goal

abbrev pub invariant-loop-side : goal.invariant-loop-side
invariant-loop-side l = plains l.all.items ≡ take l.side-index l.sides
