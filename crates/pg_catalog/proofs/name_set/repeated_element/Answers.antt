use Rattle.std.proofs.Common.{◌≡◌, ◌∙◌, ap, subst, IfOk}
use Rattle.pg_ast.specs.declared.define.VertexDef.{VertexDef}
use Rattle.pg_rules.specs.Definitions.Graphs.{vertex_names, vertex_texts, edge_names}
use Rattle.pg_rules.specs.Places.{least, sooner}
use Rattle.pg_catalog.specs.NameSets.{add_all, repeats_after}
use Rattle.pg_catalog.proofs.NameSets.{two_lists}
use Rattle.pg_catalog.proofs.name_set.repeated_element.Goals as goal

pub returns : goal.returns
returns c =
    let vertices = c.args.vertices.now in
    let edges = edge_names c.args.edges.now in
    subst (λ a. IfOk c.add_tables-place.result (λ p. p ≡ a))
    (ap (λ ns. sooner (least (repeats_after ns (vertex_names vertices))) (least (repeats_after (add_all ns (vertex_texts vertices)) edges))) c.new-names.ensures
    ∙ two_lists (λ (v : VertexDef). v.table) vertices edges)
    c.add_tables-place.ensures
