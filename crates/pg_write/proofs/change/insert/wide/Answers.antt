use Rattle.std.specs.List.{flat_map}
use Rattle.pg_ast.specs.declared.statement.InsertTuple.{InsertTuple}
use Rattle.pg_meaning.specs.Typing.{no_names}
use Rattle.pg_rules.specs.Changes.{wide_in}
use Rattle.pg_write.proofs.Loops.{next_place}
use Rattle.pg_write.proofs.change.insert.wide.Goals as goal

pub loop-tuple-preserved : goal.loop-tuple-preserved
loop-tuple-preserved c = next_place (λ (t : InsertTuple). flat_map (wide_in no_names) t.values) c.loop-tuple.found c.wide_tuple.result c.sooner-found.result c.args.tuples.now c.loop-tuple.tuple-index c.tuple-item.result c.loop-tuple-test.true c.tuple-item.is c.wide_tuple.ensures c.sooner-found.ensures c.loop-tuple.invariant
