use Rattle.std.proofs.Common.{◌∙◌, [], map, ap, ℕ, List, Bor}
use Rattle.std.specs.List.{flat_map}
use Rattle.pg_rules.specs.Places.{least}
use Rattle.pg_ast.specs.declared.define.VertexDef.{VertexDef}
use Rattle.pg_catalog.proofs.Loops.{joined}
use Rattle.pg_rules.specs.Definitions.Graphs.{no_such, edge_without_table, vertex_texts}
use Rattle.pg_catalog.specs.NameSets.{add_all}
use Rattle.pg_catalog.proofs.NameSets.{edges_same}
use Rattle.pg_catalog.proofs.graph.unknown_names.no_table.Goals as goal

pub returns : goal.returns
returns c =
    let tables = c.args.tables.now.entries in
    let texts = vertex_texts c.args.graph.now.vertices in
    let gv = λ (v : VertexDef). no_such tables v.table in
    let known = c.in_ok-known.known in
    let is_known = c.in_ok-known.ensures ∙ ap (λ vs. add_all [] (vertex_texts vs)) c.as_slice.ensures in
    joined (flat_map gv c.args.graph.now.vertices) (flat_map (edge_without_table tables texts) c.args.graph.now.edges) c.vertices_without_table-vertices.result c.edges_without_table-edges.result c.sooner.result
    (c.vertices_without_table-vertices.ensures ∙ ap (λ vs. least (flat_map gv vs)) c.as_slice-2.ensures)
    (c.edges_without_table-edges.ensures ∙ ap (λ es. least (flat_map (edge_without_table tables known) es)) c.as_slice-3.ensures
    ∙ ap (λ k. least (flat_map (edge_without_table tables k) c.args.graph.now.edges)) is_known
    ∙ ap least (edges_same tables texts c.args.graph.now.edges))
    c.sooner.ensures
