use Rattle.pg_meaning.specs.Typing.{no_names}
use Rattle.pg_rules.specs.Changes.{wide_in}
use Rattle.pg_write.proofs.Loops.{next_place}
use Rattle.pg_write.proofs.change.insert.wide_values.Goals as goal

pub loop-value-preserved : goal.loop-value-preserved
loop-value-preserved c = next_place (wide_in no_names) c.loop-value.found c.wide_whole.result c.sooner-found.result c.args.values.now c.loop-value.value-index c.value-item.result c.loop-value-test.true c.value-item.is c.wide_whole.ensures c.sooner-found.ensures c.loop-value.invariant
