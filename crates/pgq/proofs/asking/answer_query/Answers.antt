use Rattle.std.proofs.Common.{ap, sym, subst, ◌∙◌, map}
use Rattle.pg_meaning.specs.declared.checked.CheckedColumn.{CheckedColumn}
use Rattle.pg_script.specs.declared.outcome.Outcome.TheVariants.{Rows}
use Rattle.pgq.specs.Engine.{Answers}
use Rattle.pgq.proofs.Statements.Queries.{sound_query, answered}
use Rattle.pgq.proofs.asking.answer_query.Goals as goal

pub rows_of-requires-clause-sound : goal.rows_of-requires-clause-sound
rows_of-requires-clause-sound c = sound_query c.accepted_queries_are_sound.ensures c.args.engine.now c.args.query.now c.args.checked.now c.requires.ready c.soundness.ensures c.requires.written c.requires.right c.requires.checked

pub returns : goal.returns
returns c script item r =
    subst (λ at. Answers script c.args.section c.args.engine.now item (Rows at c.args.engine.now.base c.in_ok-names.names c.in_ok-rows.rows) c.args.engine.now) (sym c.len.ensures)
    (answered c.args.engine.now c.args.query.now c.args.checked.now c.in_ok-rows.rows c.in_ok-names.names c.args.section c.requires.ready c.requires.right c.requires.checked
    c.in_ok-rows.ensures.answer c.in_ok-rows.ensures.sorted (c.in_ok-names.ensures ∙ ap (map (λ (k : CheckedColumn). k.name)) c.as_slice.ensures) script item r)
