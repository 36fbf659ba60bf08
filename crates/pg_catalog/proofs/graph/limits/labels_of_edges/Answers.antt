use Rattle.pg_rules.specs.Definitions.Graphs.{ninth_label}
use Rattle.pg_ast.specs.declared.define.EdgeDef.{EdgeDef}
use Rattle.pg_catalog.proofs.Loops.{next_place}
use Rattle.pg_catalog.proofs.graph.limits.labels_of_edges.Goals as goal

pub loop-edge-preserved : goal.loop-edge-preserved
loop-edge-preserved c = next_place (λ (e : EdgeDef). ninth_label e.labels) c.loop-edge.found c.ninth_label.result c.sooner-found.result c.args.edges.now c.loop-edge.edge-index c.edge-item.result c.loop-edge-test.true c.edge-item.is (c.ninth_label.ensures) c.sooner-found.ensures c.loop-edge.invariant
