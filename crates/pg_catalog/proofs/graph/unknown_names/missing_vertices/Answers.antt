use Rattle.pg_rules.specs.Definitions.Graphs.{missing_element}
use Rattle.pg_ast.specs.declared.define.VertexDef.{VertexDef}
use Rattle.pg_catalog.proofs.Loops.{next_place}
use Rattle.pg_catalog.proofs.graph.unknown_names.missing_vertices.Goals as goal

pub loop-vertex-preserved : goal.loop-vertex-preserved
loop-vertex-preserved c = next_place (λ (v : VertexDef). missing_element c.args.tables.now.entries v.table v.key v.labels) c.loop-vertex.found c.missing_element.result c.sooner-found.result c.args.vertices.now c.loop-vertex.vertex-index c.vertex-item.result c.loop-vertex-test.true c.vertex-item.is (c.missing_element.ensures) c.sooner-found.ensures c.loop-vertex.invariant
