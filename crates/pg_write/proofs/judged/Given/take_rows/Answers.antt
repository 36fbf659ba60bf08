use Rattle.std.proofs.Common.{ap, sym, ◌∙◌}
use Rattle.std.specs.declared.option.Option.TheVariants.{Some, None}
use Rattle.pg_rules.specs.Changes.ChangeEffect.{context}
use Rattle.pg_write.specs.JudgedRows.{so_far, told, IsCheckedFor}
use Rattle.pg_write.proofs.HeldLaws.{each_lent}
use Rattle.pg_write.proofs.TakenLaws.{row_turn}
use Rattle.pg_write.proofs.judged.Given.take_rows.Goals as goal

pub take_row-requires-clause-checked : goal.take_row-requires-clause-checked
take_row-requires-clause-checked g c = each_lent (λ s. IsCheckedFor c.args.change.now s.row) c.args.rows.now c.loop-held.held-index c.held-item.result c.loop-held-test.true c.held-item.is c.requires.checked

pub returns-in-Ok-Some-clause-judged : goal.returns-in-Ok-Some-clause-judged
returns-in-Ok-Some-clause-judged g c =
    sym c.loop-held.invariant.rest
    ∙ row_turn (context c.args.self.now.limit c.args.self.now.shape.now (g.T.TableRows.tables c.args.self.now.tables.now) c.args.self.now.writes.now.list) c.args.self.now.insert c.args.change.now (so_far c.loop-held.so_far) (so_far c.take_row.new.so_far) c.args.rows.now c.loop-held.held-index c.held-item.result (Some c.in-Ok-Some.fault)
    c.loop-held-test.true c.held-item.is (c.in-Ok-Some.ensures.judged ∙ ap (λ f. told f (so_far c.take_row.new.so_far)) c.in-Ok-Some.field-0-is)

pub loop-held-preserved : goal.loop-held-preserved
loop-held-preserved g c = record {
  counted = c.in-Ok-None.ensures.counted;
  rest = sym (row_turn (context c.args.self.now.limit c.args.self.now.shape.now (g.T.TableRows.tables c.args.self.now.tables.now) c.args.self.now.writes.now.list) c.args.self.now.insert c.args.change.now (so_far c.loop-held.so_far) (so_far c.take_row.new.so_far) c.args.rows.now c.loop-held.held-index c.held-item.result None
      c.loop-held-test.true c.held-item.is (c.in-Ok-None.ensures.judged ∙ ap (λ f. told f (so_far c.take_row.new.so_far)) c.in-Ok-None.field-0-is))
      ∙ c.loop-held.invariant.rest;
}
