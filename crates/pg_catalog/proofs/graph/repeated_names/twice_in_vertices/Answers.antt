use Rattle.pg_rules.specs.Definitions.Graphs.{twice_labelled}
use Rattle.pg_ast.specs.declared.define.VertexDef.{VertexDef}
use Rattle.pg_catalog.proofs.Loops.{next_place}
use Rattle.pg_catalog.proofs.graph.repeated_names.twice_in_vertices.Goals as goal

pub loop-vertex-preserved : goal.loop-vertex-preserved
loop-vertex-preserved c = next_place (λ (v : VertexDef). twice_labelled v.labels) c.loop-vertex.found c.in_ok-again.again c.sooner-found.result c.args.vertices.now c.loop-vertex.vertex-index c.vertex-item.result c.loop-vertex-test.true c.vertex-item.is (c.in_ok-again.ensures) c.sooner-found.ensures c.loop-vertex.invariant
