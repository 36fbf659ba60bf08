use Rattle.std.proofs.Common.{◌≡◌, ap, sym, subst, ◌∙◌, length}
use Rattle.std.specs.Prelude.{slice_get}
use Rattle.std.specs.declared.option.Option.TheVariants.{Some, None}
use Rattle.pg_value.specs.Writes.{merge}
use Rattle.pg_value.specs.declared.shape.TableNo.{TableNo}
use Rattle.pg_meaning.specs.Sound.Changes.{IsSoundFor, table_of}
use Rattle.pg_write.specs.JudgedRows.{so_far}
use Rattle.pg_write.proofs.ApplyLaws.{at_is, from_none, judged_faulty}
use Rattle.pg_write.proofs.CheckedLaws.{are_stored}
use Rattle.pg_write.proofs.JudgedLaws.{nothing_put}
use Rattle.pg_write.proofs.apply.judge_change.Goals as goal

pub take_change-requires-clause-counted : goal.take_change-requires-clause-counted
take_change-requires-clause-counted g c = record {
  counted = c.len.ensures.length ∙ ap length (sym (ap (merge c.args.writes.now.list) c.new.ensures.list ∙ nothing_put c.args.writes.now.list));
  limited = c.new.ensures.limit;
}

pub take_change-requires-clause-sound : goal.take_change-requires-clause-sound
take_change-requires-clause-sound g c =
    let own : (table_of c.args.change.now).0 ≡ c.table_of-table.result.0 = sym (ap (λ (t : TableNo). t.0) c.table_of-table.ensures) in
    subst (λ s. IsSoundFor s c.args.change.now) (sym (at_is c.args.shapes.now.tables c.table_of-table.result.0 c.requires.change.table c.at.result.now (ap (slice_get c.args.shapes.now.tables) (sym own) ∙ c.requires.change.stands) c.at.ensures)) c.requires.change.sound

pub take_change-requires-clause-stored : goal.take_change-requires-clause-stored
take_change-requires-clause-stored g c =
    let own : (table_of c.args.change.now).0 ≡ c.table_of-table.result.0 = sym (ap (λ (t : TableNo). t.0) c.table_of-table.ensures) in
    let stands : slice_get c.args.shapes.now.tables c.table_of-table.result.0 ≡ Some c.requires.change.table = ap (slice_get c.args.shapes.now.tables) (sym own) ∙ c.requires.change.stands in
    are_stored c.args.shapes.now c.table_of-table.result c.at.result.now (g.T.TableRows.tables c.args.tables.now)
    (stands ∙ ap Some (sym (at_is c.args.shapes.now.tables c.table_of-table.result.0 c.requires.change.table c.at.result.now stands c.at.ensures))) c.requires.fit

pub returns-in-Ok-None-clause-judged : goal.returns-in-Ok-None-clause-judged
returns-in-Ok-None-clause-judged g c =
    let own : (table_of c.args.change.now).0 ≡ c.table_of-table.result.0 = sym (ap (λ (t : TableNo). t.0) c.table_of-table.ensures) in
    let stands : slice_get c.args.shapes.now.tables c.table_of-table.result.0 ≡ Some c.requires.change.table = ap (slice_get c.args.shapes.now.tables) (sym own) ∙ c.requires.change.stands in
    from_none c.args.limit c.args.shapes.now (g.T.TableRows.tables c.args.tables.now) c.args.writes.now.list c.args.change.now c.requires.change.table c.at.result.now c.is_insert.result c.new.result.list None c.in-Ok-None.field-0 (so_far c.take_change.new.so_far)
    c.requires.change.stands (at_is c.args.shapes.now.tables c.table_of-table.result.0 c.requires.change.table c.at.result.now stands c.at.ensures) c.is_insert.ensures c.new.ensures.list c.in-Ok-None.field-0-is c.in-Ok-None.ensures.judged

pub returns-in-Ok-Some-clause-fault : goal.returns-in-Ok-Some-clause-fault
returns-in-Ok-Some-clause-fault g c =
    let own : (table_of c.args.change.now).0 ≡ c.table_of-table.result.0 = sym (ap (λ (t : TableNo). t.0) c.table_of-table.ensures) in
    let stands : slice_get c.args.shapes.now.tables c.table_of-table.result.0 ≡ Some c.requires.change.table = ap (slice_get c.args.shapes.now.tables) (sym own) ∙ c.requires.change.stands in
    judged_faulty c.args.limit c.args.shapes.now (g.T.TableRows.tables c.args.tables.now) c.args.writes.now.list c.args.change.now _ c.in-Ok-Some.fault c.faulty_row.result
    (from_none c.args.limit c.args.shapes.now (g.T.TableRows.tables c.args.tables.now) c.args.writes.now.list c.args.change.now c.requires.change.table c.at.result.now c.is_insert.result c.new.result.list (Some c.in-Ok-Some.fault) c.in-Ok-Some.field-0 (so_far c.take_change.new.so_far)
    c.requires.change.stands (at_is c.args.shapes.now.tables c.table_of-table.result.0 c.requires.change.table c.at.result.now stands c.at.ensures) c.is_insert.ensures c.new.ensures.list c.in-Ok-Some.field-0-is c.in-Ok-Some.ensures.judged)
    c.faulty_row.ensures
