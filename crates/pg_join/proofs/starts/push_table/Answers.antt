use Rattle.std.proofs.Common.{◌++◌, ap, ◌∙◌}
use Rattle.std.proofs.lemmas.Result.{on_ok_weaker}
use Rattle.pg_meaning.specs.Reads.{elements_of}
use Rattle.pg_join.proofs.Starting.{of_one_table}
use Rattle.pg_join.proofs.starts.push_table.Goals as goal

pub returns : goal.returns
returns g c =
    let tables = g.V.View.tables c.args.view.now in
    let e = c.in_ok-found.ensures ∙ ap (elements_of tables) c.only.ensures ∙ of_one_table tables c.args.table in
    on_ok_weaker c.push_vertices.result (λ h. h ∙ ap (λ vs. c.args.starts.now ++ vs) e) c.push_vertices.ensures
