use Rattle.std.proofs.Common.{map, ℕ, List, Bor}
use Rattle.pg_rules.specs.Definitions.Graphs.{edge_without_table}
use Rattle.pg_catalog.proofs.Loops.{next_place}
use Rattle.pg_catalog.proofs.graph.unknown_names.edges_without_table.Goals as goal

pub loop-edge-preserved : goal.loop-edge-preserved
loop-edge-preserved c = next_place (edge_without_table c.args.tables.now.entries c.args.vertices.now) c.loop-edge.found c.edge_without_table.result c.sooner-found.result c.args.edges.now c.loop-edge.edge-index c.edge-item.result c.loop-edge-test.true c.edge-item.is (c.edge_without_table.ensures) c.sooner-found.ensures c.loop-edge.invariant
