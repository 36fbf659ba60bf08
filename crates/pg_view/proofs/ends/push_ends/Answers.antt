use Rattle.pg_view.specs.RowEnds.{ends_in}
use Rattle.pg_view.proofs.Growing.{grown}
use Rattle.pg_view.proofs.ends.push_ends.Goals as goal

pub loop-stored-preserved : goal.loop-stored-preserved
loop-stored-preserved c =
    grown (ends_in c.args.shape.now) c.args.all.now.items c.loop-stored.all.items c.push_some.new.all.items c.args.rows.now c.loop-stored.stored-index c.stored-item.result c.in_ok-ends.ends
    c.loop-stored-test.true c.stored-item.is c.loop-stored.invariant c.in_ok-ends.ensures c.in_ok-push_some.ensures
