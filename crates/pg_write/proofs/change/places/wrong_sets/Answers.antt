use Rattle.pg_rules.specs.Changes.{wrong_set}
use Rattle.pg_write.proofs.Loops.{next_place}
use Rattle.pg_write.proofs.change.places.wrong_sets.Goals as goal

pub loop-set-preserved : goal.loop-set-preserved
loop-set-preserved c = next_place (wrong_set c.args.columns.now) c.loop-set.found c.wrong_set.result c.sooner-found.result c.args.sets.now c.loop-set.set-index c.set-item.result c.loop-set-test.true c.set-item.is c.wrong_set.ensures c.sooner-found.ensures c.loop-set.invariant
