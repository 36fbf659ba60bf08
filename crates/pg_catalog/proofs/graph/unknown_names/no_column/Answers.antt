use Rattle.std.proofs.Common.{◌∙◌, ap}
use Rattle.std.specs.List.{flat_map}
use Rattle.pg_rules.specs.Places.{least}
use Rattle.pg_ast.specs.declared.define.VertexDef.{VertexDef}
use Rattle.pg_catalog.proofs.Loops.{joined}
use Rattle.pg_rules.specs.Definitions.Graphs.{missing_element, missing_edge}
use Rattle.pg_catalog.proofs.graph.unknown_names.no_column.Goals as goal

pub returns : goal.returns
returns c =
    let gv = λ (v : VertexDef). missing_element c.args.tables.now.entries v.table v.key v.labels in
    let ge = missing_edge c.args.tables.now.entries in
    joined (flat_map gv c.args.graph.now.vertices) (flat_map ge c.args.graph.now.edges) c.missing_vertices-vertices.result c.missing_edges-edges.result c.sooner.result
    (c.missing_vertices-vertices.ensures ∙ ap (λ vs. least (flat_map gv vs)) c.as_slice.ensures)
    (c.missing_edges-edges.ensures ∙ ap (λ es. least (flat_map ge es)) c.as_slice-2.ensures)
    c.sooner.ensures
