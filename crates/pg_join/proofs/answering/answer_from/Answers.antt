use Rattle.std.proofs.Common.{sym, subst}
use Rattle.std.specs.List.{AllZip}
use Rattle.pg_join.specs.Joining.{AreOf}
use Rattle.pg_join.specs.Rows.{IsTuple}
use Rattle.pg_join.proofs.Results.{all_of_each, tuples_of, answer_of}
use Rattle.pg_join.proofs.Steps.{each_image}
use Rattle.pg_join.proofs.answering.answer_from.Goals as goal

pub joined-requires : goal.joined-requires
joined-requires g c =
    let shapes = g.V.View.shapes c.args.view.now in
    let tables = g.V.View.tables c.args.view.now in
    subst (λ ps. AllZip AreOf ps c.args.kept.now) (sym c.as_slice.ensures) (all_of_each shapes tables c.binding_by_path.ensures c.args.query.now.paths c.args.kept.now c.requires.kept)

pub rows_of-requires-clause-tuples : goal.rows_of-requires-clause-tuples
rows_of-requires-clause-tuples g c = λ κs l.
    let shapes = g.V.View.shapes c.args.view.now in
    let tables = g.V.View.tables c.args.view.now in
    let q = c.args.query.now in
    each_image _ (IsTuple shapes tables q) _ _ c.as_slice-2.ensures.value
    (tuples_of shapes tables q c.binding_by_path.ensures c.args.kept.now c.requires.sound c.requires.kept c.as_slice.result.now c.as_slice.ensures _ c.in_ok-tuples.ensures)

pub returns-clause-answer : goal.returns-clause-answer
returns-clause-answer g c =
    let shapes = g.V.View.shapes c.args.view.now in
    let tables = g.V.View.tables c.args.view.now in
    let q = c.args.query.now in
    answer_of shapes tables q c.binding_by_path.ensures c.args.kept.now c.requires.sound c.requires.kept c.as_slice.result.now c.as_slice.ensures
    _ _ _ c.in_ok-rows.rows.items c.sort_rows.new.rows.items c.from_vec.result c.in_ok-tuples.ensures c.as_slice-2.ensures.value c.in_ok-rows.ensures c.in_ok-sort_rows.ensures.same c.from_vec.ensures
