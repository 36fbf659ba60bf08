use Rattle.pg_view.specs.RowEnds.{ends_in}
use Rattle.pg_snap.proofs.Growing.{grown}
use Rattle.pg_snap.proofs.ends.push_ends.Goals as goal

pub loop-stored-preserved : goal.loop-stored-preserved
loop-stored-preserved c =
    grown (ends_in c.args.shape.now) c.args.all.now c.loop-stored.all c.push_some.new.all c.args.rows.now c.loop-stored.stored-index c.stored-item.result c.in_ok-ends.ends
    c.loop-stored-test.true c.stored-item.is c.loop-stored.invariant c.in_ok-ends.ensures c.in_ok-push_some.ensures
