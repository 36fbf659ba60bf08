use Rattle.std.proofs.Common.{ap, sym, subst, length}
use Rattle.pg_script.specs.declared.script.Item.TheVariants.{Sql}
use Rattle.pgq.specs.Sections.{HasAnswered, IsStatementIn}
use Rattle.pgq.proofs.Runs.Turns.{none_answered}
use Rattle.pgq.proofs.Runs.Sections.{each_at, item_more, counted_more}
use Rattle.pgq.proofs.run.answer_items.Goals as goal

pub items-init : goal.items-init
items-init c = (
  c.requires.ready,
  subst (λ os. HasAnswered c.args.script.now c.args.section c.args.items.now c.args.engine.now os c.args.engine.now) (sym c.new-outcomes.ensures) (none_answered c.args.script.now c.args.section c.args.items.now c.args.engine.now),
  ap length c.new-outcomes.ensures,
)

pub answer_item-requires-clause-statement : goal.answer_item-requires-clause-statement
answer_item-requires-clause-statement c = each_at (IsStatementIn c.args.script.now.text) c.args.items.now c.items.item-index (Sql 0 0) c.requires.statements c.items-test.true

pub items-preserved : goal.items-preserved
items-preserved c = (
  c.in-Ok.ensures.ready,
  item_more c.args.script.now c.args.section c.args.items.now c.args.engine.now c.items.engine c.answer_item.new.engine c.items.outcomes c.push.new.self (Sql 0 0) c.items.item-index c.in-Ok.outcome
      c.items.invariant.1 c.items.invariant.2 c.items-test.true c.items.invariant.0 c.in-Ok.ensures.answers c.in-Ok-push.ensures.ok,
  counted_more c.items.outcomes c.push.new.self c.items.item-index c.in-Ok.outcome c.items.invariant.2 c.in-Ok-push.ensures.ok,
)
