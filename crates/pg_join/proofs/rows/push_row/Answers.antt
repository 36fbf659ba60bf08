use Rattle.std.proofs.Common.{◌++◌, map, ap, ◌∙◌}
use Rattle.std.proofs.lemmas.Result.{on_ok_weaker}
use Rattle.pg_join.proofs.BoundRows.{same_rows}
use Rattle.pg_join.proofs.rows.push_row.Goals as goal

pub returns : goal.returns
returns g c =
    let shapes = g.V.View.shapes c.args.view.now in
    let tables = g.V.View.tables c.args.view.now in
    let e = same_rows shapes tables c.args.query.now (map (λ b. b.now) c.args.tuple.now) c.in_ok-bound.bound c.requires.sound c.in_ok-bound.ensures in
    on_ok_weaker c.push_kept.result (λ h. h ∙ ap (λ rs. c.args.rows.now.items ++ rs) e) c.push_kept.ensures
