use Rattle.std.proofs.Common.{◌≡◌, ◌++◌, take}
use Rattle.pg_snap.proofs.vertices.push_copies.Given as goal

abbrev pub invariant-vertices : goal.invariant-vertices
invariant-vertices l = l.all.items ≡ l.fn.all.items ++ take l.vertex-index l.vertices
