use Rattle.std.proofs.Common.{◌≡◌, take, map}
use Rattle.pg_rules.specs.Definitions.Entries.{vertex_of}
use Rattle.pg_catalog.proofs.graph.entry.vertices_of.Given as goal

abbrev pub invariant-loop-vertex : goal.invariant-loop-vertex
invariant-loop-vertex l = l.out ≡ map (vertex_of l.tables.entries) (take l.vertex-index l.vertices)
