use Rattle.std.proofs.Common.{◌∙◌, ap, not}
use Rattle.pg_rules.specs.Places.{least, place_if}
use Rattle.pg_rules.specs.Definitions.Graphs.{key_fits}
use Rattle.pg_ast.specs.declared.define.VertexDef.{VertexDef}
use Rattle.pg_catalog.proofs.Loops.{next_place}
use Rattle.pg_catalog.proofs.graph.keys.mismatched_vertices.Goals as goal

pub loop-vertex-preserved : goal.loop-vertex-preserved
loop-vertex-preserved c = next_place (λ (v : VertexDef). place_if (not (key_fits c.args.tables.now.entries v.table v.key)) v.table.at) c.loop-vertex.found c.place_if.result c.sooner-found.result c.args.vertices.now c.loop-vertex.vertex-index c.vertex-item.result c.loop-vertex-test.true c.vertex-item.is (c.place_if.ensures ∙ ap (λ b. least (place_if (not b) c.vertex-item.result.table.at)) c.key_fits-fits.ensures) c.sooner-found.ensures c.loop-vertex.invariant
