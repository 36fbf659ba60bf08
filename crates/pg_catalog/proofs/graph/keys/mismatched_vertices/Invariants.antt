use Rattle.std.proofs.Common.{◌≡◌, drop, not}
use Rattle.std.specs.List.{flat_map}
use Rattle.pg_rules.specs.Places.{least, sooner, place_if}
use Rattle.pg_rules.specs.Definitions.Graphs.{key_fits}
use Rattle.pg_catalog.proofs.graph.keys.mismatched_vertices.Given as goal

abbrev pub invariant-loop-vertex : goal.invariant-loop-vertex
invariant-loop-vertex l = sooner l.found (least (flat_map (λ v. place_if (not (key_fits l.tables.entries v.table v.key)) v.table.at) (drop l.vertex-index l.vertices))) ≡ least (flat_map (λ v. place_if (not (key_fits l.tables.entries v.table v.key)) v.table.at) l.vertices)
