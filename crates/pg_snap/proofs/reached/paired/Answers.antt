use Rattle.pg_snap.proofs.StepLaws.{one_paired}
use Rattle.pg_snap.proofs.reached.paired.Goals as goal

pub loop-i-preserved : goal.loop-i-preserved
loop-i-preserved c = one_paired c.args.edges.now c.args.others.now c.loop-i.i _ c.loop-i.all.items c.push.new.self.items c.loop-i-test.true c.requires c.index-edges-i.is c.index-others-i.is c.loop-i.invariant c.in_ok-push.ensures.items
