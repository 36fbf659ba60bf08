use Rattle.std.proofs.Common.{ap, sym, ◌∙◌}
use Rattle.std.specs.Prelude.{is_some}
use Rattle.pg_search.specs.Searches.{is_among}
use Rattle.pg_search.proofs.Vertices.{vertex_then, vertex_none, copied_some}
use Rattle.pg_search.proofs.search.is_vertex.Goals as goal

pub returns-then-is_among-clause-vertex : goal.returns-then-is_among-clause-vertex
returns-then-is_among-clause-vertex g c = λ order. vertex_then c.args.graph.now (g.V.View.tables c.args.view.now) c.args.elem.now c.is_some.result
    (ap (λ ts. is_among ts c.args.elem.now.table) (sym c.as_slice.ensures) ∙ sym c.is_among.ensures ∙ c.if-is_among.true)
    (c.is_some.ensures ∙ copied_some c.row.result ∙ ap is_some c.row.ensures.value)

pub returns-else-is_among-clause-vertex : goal.returns-else-is_among-clause-vertex
returns-else-is_among-clause-vertex g c = λ order. vertex_none c.args.graph.now (g.V.View.tables c.args.view.now) c.args.elem.now c.is_among.result c.if-is_among.false
    (ap (λ ts. is_among ts c.args.elem.now.table) (sym c.as_slice.ensures) ∙ sym c.is_among.ensures ∙ c.if-is_among.false)
