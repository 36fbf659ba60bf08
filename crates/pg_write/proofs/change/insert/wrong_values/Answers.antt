use Rattle.pg_rules.specs.Places.{least}
use Rattle.pg_write.specs.ChangePasses.{wrong_from}
use Rattle.pg_write.proofs.TargetLaws.{next_wrong}
use Rattle.pg_write.proofs.change.insert.wrong_values.Goals as goal

pub loop-i-preserved : goal.loop-i-preserved
loop-i-preserved c = next_wrong c.args.columns.now c.args.targets.now c.loop-i.found c.wrong_at.result c.sooner-found.result (least (wrong_from c.args.columns.now c.args.targets.now 0 c.args.values.now)) c.args.values.now c.loop-i.i c.index-values-i.result c.loop-i-test.true c.index-values-i.is c.wrong_at.ensures c.sooner-found.ensures c.loop-i.invariant
