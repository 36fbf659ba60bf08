use Rattle.std.proofs.Common.{◌≡◌, take}
use Rattle.pg_snap.specs.Under.{plains}
use Rattle.pg_snap.proofs.vertices.copied_sides.Given as goal

abbrev pub invariant-loop-reached : goal.invariant-loop-reached
invariant-loop-reached l = l.sides ≡ plains (take l.reached-index l.all)
