use Rattle.std.proofs.Common.{◌≡◌, drop, not}
use Rattle.std.specs.List.{flat_map}
use Rattle.pg_rules.specs.Places.{least, sooner, place_if}
use Rattle.pg_rules.specs.Definitions.Graphs.{edge_fits}
use Rattle.pg_catalog.proofs.graph.keys.mismatched_edges.Given as goal

abbrev pub invariant-loop-edge : goal.invariant-loop-edge
invariant-loop-edge l = sooner l.found (least (flat_map (λ e. place_if (not (edge_fits l.tables.entries e)) e.table.at) (drop l.edge-index l.edges))) ≡ least (flat_map (λ e. place_if (not (edge_fits l.tables.entries e)) e.table.at) l.edges)
