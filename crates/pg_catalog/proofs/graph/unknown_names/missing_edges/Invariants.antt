use Rattle.std.proofs.Common.{◌≡◌, drop}
use Rattle.std.specs.List.{flat_map}
use Rattle.pg_rules.specs.Places.{least, sooner}
use Rattle.pg_rules.specs.Definitions.Graphs.{missing_edge}
use Rattle.pg_catalog.proofs.graph.unknown_names.missing_edges.Given as goal

abbrev pub invariant-loop-edge : goal.invariant-loop-edge
invariant-loop-edge l = sooner l.found (least (flat_map (missing_edge l.tables.entries) (drop l.edge-index l.edges))) ≡ least (flat_map (missing_edge l.tables.entries) l.edges)
