use Rattle.std.proofs.Common.{take}
use Rattle.pg_snap.specs.Folds.{Gathered}
use Rattle.pg_snap.proofs.vertices.gathered.Given as goal

abbrev pub invariant-ends : goal.invariant-ends
invariant-ends g l = Gathered l.dir l.groups (take l.edge-index l.ends) l.vertices
