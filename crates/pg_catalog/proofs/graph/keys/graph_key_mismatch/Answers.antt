use Rattle.std.proofs.Common.{◌∙◌, ap, not}
use Rattle.std.specs.List.{flat_map}
use Rattle.pg_rules.specs.Places.{least, place_if}
use Rattle.pg_ast.specs.declared.define.VertexDef.{VertexDef}
use Rattle.pg_ast.specs.declared.define.EdgeDef.{EdgeDef}
use Rattle.pg_catalog.proofs.Loops.{joined}
use Rattle.pg_rules.specs.Definitions.Graphs.{key_fits, edge_fits}
use Rattle.pg_catalog.proofs.graph.keys.graph_key_mismatch.Goals as goal

pub returns : goal.returns
returns c =
    let gv = λ (v : VertexDef). place_if (not (key_fits c.args.tables.now.entries v.table v.key)) v.table.at in
    let ge = λ (e : EdgeDef). place_if (not (edge_fits c.args.tables.now.entries e)) e.table.at in
    joined (flat_map gv c.args.graph.now.vertices) (flat_map ge c.args.graph.now.edges) c.mismatched_vertices-vertices.result c.mismatched_edges-edges.result c.sooner.result
    (c.mismatched_vertices-vertices.ensures ∙ ap (λ vs. least (flat_map gv vs)) c.as_slice.ensures)
    (c.mismatched_edges-edges.ensures ∙ ap (λ es. least (flat_map ge es)) c.as_slice-2.ensures)
    c.sooner.ensures
