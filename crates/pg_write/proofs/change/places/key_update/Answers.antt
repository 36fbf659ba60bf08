use Rattle.pg_write.specs.ChangePasses.{key_set}
use Rattle.pg_write.proofs.Loops.{next_place}
use Rattle.pg_write.proofs.change.places.key_update.Goals as goal

pub loop-set-preserved : goal.loop-set-preserved
loop-set-preserved c = next_place (key_set c.args.columns.now c.args.key.now) c.loop-set.found c.key_set.result c.sooner-found.result c.args.sets.now c.loop-set.set-index c.set-item.result c.loop-set-test.true c.set-item.is c.key_set.ensures c.sooner-found.ensures c.loop-set.invariant
