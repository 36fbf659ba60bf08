use Rattle.std.proofs.Common.{◌≡◌, ◌++◌, take, map}
use Rattle.pg_rules.specs.Definitions.Entries.{placed_vertex}
use Rattle.pg_catalog.proofs.graph.entry.push_vertices.Given as goal

abbrev pub invariant-loop-vertex : goal.invariant-loop-vertex
invariant-loop-vertex l = l.out ≡ l.fn.out ++ map (placed_vertex l.tables.entries) (take l.vertex-index l.vertices)
