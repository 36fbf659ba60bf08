use Rattle.std.proofs.Common.{◌∙◌, ap, not}
use Rattle.pg_rules.specs.Places.{least, place_if}
use Rattle.pg_rules.specs.Definitions.Graphs.{edge_fits}
use Rattle.pg_ast.specs.declared.define.EdgeDef.{EdgeDef}
use Rattle.pg_catalog.proofs.Loops.{next_place}
use Rattle.pg_catalog.proofs.graph.keys.mismatched_edges.Goals as goal

pub loop-edge-preserved : goal.loop-edge-preserved
loop-edge-preserved c = next_place (λ (e : EdgeDef). place_if (not (edge_fits c.args.tables.now.entries e)) e.table.at) c.loop-edge.found c.place_if.result c.sooner-found.result c.args.edges.now c.loop-edge.edge-index c.edge-item.result c.loop-edge-test.true c.edge-item.is (c.place_if.ensures ∙ ap (λ b. least (place_if (not b) c.edge-item.result.table.at)) c.edge_fits.ensures) c.sooner-found.ensures c.loop-edge.invariant
