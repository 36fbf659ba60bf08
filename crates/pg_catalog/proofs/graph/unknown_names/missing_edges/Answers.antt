use Rattle.pg_rules.specs.Definitions.Graphs.{missing_edge}
use Rattle.pg_catalog.proofs.Loops.{next_place}
use Rattle.pg_catalog.proofs.graph.unknown_names.missing_edges.Goals as goal

pub loop-edge-preserved : goal.loop-edge-preserved
loop-edge-preserved c = next_place (missing_edge c.args.tables.now.entries) c.loop-edge.found c.missing_edge.result c.sooner-found.result c.args.edges.now c.loop-edge.edge-index c.edge-item.result c.loop-edge-test.true c.edge-item.is (c.missing_edge.ensures) c.sooner-found.ensures c.loop-edge.invariant
