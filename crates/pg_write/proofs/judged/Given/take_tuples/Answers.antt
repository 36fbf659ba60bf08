use Rattle.std.proofs.Common.{ap, sym, ◌∙◌}
use Rattle.std.specs.declared.option.Option.TheVariants.{Some, None}
use Rattle.pg_rules.specs.Changes.InsertEffect.{row_of, write_of}
use Rattle.pg_rules.specs.Changes.ChangeEffect.{context}
use Rattle.pg_write.specs.JudgedRows.{so_far, told}
use Rattle.pg_write.proofs.TakenLaws.{tuple_turn}
use Rattle.pg_write.proofs.judged.Given.take_tuples.Goals as goal

pub returns-in-Ok-Some-clause-judged : goal.returns-in-Ok-Some-clause-judged
returns-in-Ok-Some-clause-judged g c =
    sym c.loop-tuple.invariant.rest
    ∙ tuple_turn (context c.args.self.now.limit c.args.self.now.shape.now (g.T.TableRows.tables c.args.self.now.tables.now) c.args.self.now.writes.now.list) c.args.self.now.insert c.args.self.now.table c.args.self.now.shape.now c.args.columns.now (so_far c.loop-tuple.so_far) (so_far c.take.new.so_far) c.args.tuples.now c.loop-tuple.tuple-index c.tuple-item.result c.in_ok-write.write (Some c.in-Ok-Some.fault)
    c.loop-tuple-test.true c.tuple-item.is (c.in_ok-write.ensures ∙ ap (λ t. write_of c.args.self.now.table c.args.self.now.shape.now (row_of c.args.self.now.shape.now c.args.columns.now t)) c.as_slice.ensures)
    (c.in-Ok-Some.ensures.judged ∙ ap (λ f. told f (so_far c.take.new.so_far)) c.in-Ok-Some.field-0-is)

pub loop-tuple-preserved : goal.loop-tuple-preserved
loop-tuple-preserved g c = record {
  counted = c.in-Ok-None.ensures.counted;
  rest = sym (tuple_turn (context c.args.self.now.limit c.args.self.now.shape.now (g.T.TableRows.tables c.args.self.now.tables.now) c.args.self.now.writes.now.list) c.args.self.now.insert c.args.self.now.table c.args.self.now.shape.now c.args.columns.now (so_far c.loop-tuple.so_far) (so_far c.take.new.so_far) c.args.tuples.now c.loop-tuple.tuple-index c.tuple-item.result c.in_ok-write.write None
      c.loop-tuple-test.true c.tuple-item.is (c.in_ok-write.ensures ∙ ap (λ t. write_of c.args.self.now.table c.args.self.now.shape.now (row_of c.args.self.now.shape.now c.args.columns.now t)) c.as_slice.ensures)
      (c.in-Ok-None.ensures.judged ∙ ap (λ f. told f (so_far c.take.new.so_far)) c.in-Ok-None.field-0-is))
      ∙ c.loop-tuple.invariant.rest;
}
