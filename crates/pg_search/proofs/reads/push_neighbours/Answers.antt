use Rattle.std.proofs.Common.{ap, sym, ◌∙◌}
use Rattle.std.specs.Prelude.{slice_get}
use Rattle.pg_value.specs.declared.shape.TableNo.{TableNo}
use Rattle.pg_value.specs.declared.shape.Shapes.{Shapes}
use Rattle.pg_search.proofs.Asked.{other_table}
use Rattle.pg_search.proofs.reads.push_neighbours.Goals as goal

pub returns-else-end_table-vertex-clause-ok : goal.returns-else-end_table-vertex-clause-ok
returns-else-end_table-vertex-clause-ok g c =
    other_table (g.V.View.shapes c.args.view.now) (g.V.View.tables c.args.view.now) c.args.edge c.args.dir c.args.vertex.now c.in-Some.shape.now c.args.out.now
    (sym (ap (λ (s : Shapes). slice_get s.edges c.args.edge.0) c.shapes.ensures) ∙ sym c.in-Some.ensures.value)
    (λ e. c.if-end_table-vertex.false (ap (λ (t : TableNo). t.0) c.end_table.ensures ∙ e))
