use Rattle.std.proofs.Common.{ap, sym, subst, ◌∙◌, IfOk}
use Rattle.pg_meaning.specs.Answers.{Answer}
use Rattle.pg_view.specs.Lists.{AreLists, Version, joined}
use Rattle.pgq.proofs.Statements.Queries.{lists_view, lists_joined}
use Rattle.pgq.proofs.asking.rows_of.Goals as goal

pub new-requires : goal.new-requires
new-requires c = subst (AreLists c.args.engine.now.shapes) (sym c.as_slice-lists.ensures.value) (lists_view c.args.engine.now c.requires.ready c.lists_are_tables.ensures)

pub returns-in-Ok-clause-answer : goal.returns-in-Ok-clause-answer
returns-in-Ok-clause-answer c =
    subst (λ tables. IfOk c.answer_in_turn.result (Answer c.args.engine.now.shapes tables c.args.query.now))
    (ap joined c.as_slice-lists.ensures.value ∙ lists_joined c.args.engine.now c.requires.ready c.lists_are_tables.ensures)
    (subst (λ (v : Version). IfOk c.answer_in_turn.result (Answer v.shapes v.tables c.args.query.now)) c.in-Ok.ensures c.answer_in_turn.ensures.answer)
