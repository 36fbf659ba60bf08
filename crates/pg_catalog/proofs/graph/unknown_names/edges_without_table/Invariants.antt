use Rattle.std.proofs.Common.{◌≡◌, drop, map}
use Rattle.std.specs.List.{flat_map}
use Rattle.pg_rules.specs.Places.{least, sooner}
use Rattle.pg_rules.specs.Definitions.Graphs.{edge_without_table}
use Rattle.pg_catalog.proofs.graph.unknown_names.edges_without_table.Given as goal

abbrev pub invariant-loop-edge : goal.invariant-loop-edge
invariant-loop-edge l = sooner l.found (least (flat_map (edge_without_table l.tables.entries l.vertices) (drop l.edge-index l.edges))) ≡ least (flat_map (edge_without_table l.tables.entries l.vertices) l.edges)
