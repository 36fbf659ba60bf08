use Rattle.pg_ast.specs.declared.statement.InsertTuple.{InsertTuple}
use Rattle.pg_rules.specs.Changes.InsertJudgement.{wrong_values}
use Rattle.pg_write.proofs.Loops.{next_place}
use Rattle.pg_write.proofs.change.insert.types.Goals as goal

pub loop-tuple-preserved : goal.loop-tuple-preserved
loop-tuple-preserved c = next_place (λ (t : InsertTuple). wrong_values c.args.columns.now c.args.targets.now t.values) c.loop-tuple.found c.wrong_tuple.result c.sooner-found.result c.args.tuples.now c.loop-tuple.tuple-index c.tuple-item.result c.loop-tuple-test.true c.tuple-item.is c.wrong_tuple.ensures c.sooner-found.ensures c.loop-tuple.invariant
