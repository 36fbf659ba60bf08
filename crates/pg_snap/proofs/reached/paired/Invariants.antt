use Rattle.std.proofs.Common.{◌≡◌, take}
use Rattle.pg_snap.specs.Under.{plains, zipped}
use Rattle.pg_snap.proofs.reached.paired.Given as goal

abbrev pub invariant-loop-i : goal.invariant-loop-i
invariant-loop-i l = plains l.all.items ≡ zipped (take l.i l.edges) (take l.i l.others)
