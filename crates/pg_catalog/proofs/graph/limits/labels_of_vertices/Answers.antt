use Rattle.pg_rules.specs.Definitions.Graphs.{ninth_label}
use Rattle.pg_ast.specs.declared.define.VertexDef.{VertexDef}
use Rattle.pg_catalog.proofs.Loops.{next_place}
use Rattle.pg_catalog.proofs.graph.limits.labels_of_vertices.Goals as goal

pub loop-vertex-preserved : goal.loop-vertex-preserved
loop-vertex-preserved c = next_place (λ (v : VertexDef). ninth_label v.labels) c.loop-vertex.found c.ninth_label.result c.sooner-found.result c.args.vertices.now c.loop-vertex.vertex-index c.vertex-item.result c.loop-vertex-test.true c.vertex-item.is (c.ninth_label.ensures) c.sooner-found.ensures c.loop-vertex.invariant
