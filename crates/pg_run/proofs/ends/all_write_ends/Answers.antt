use Rattle.std.proofs.Common.{[]}
use Rattle.pg_run.specs.Cuts.{write_ends}
use Rattle.pg_run.proofs.Growing.{grown}
use Rattle.pg_run.proofs.ends.all_write_ends.Goals as goal

pub loop-write-preserved : goal.loop-write-preserved
loop-write-preserved c =
    grown (write_ends c.args.shape.now) [] c.loop-write.all c.push_some.new.all c.args.writes.now c.loop-write.write-index c.write-item.result c.in_ok-ends.ends
    c.loop-write-test.true c.write-item.is c.loop-write.invariant c.in_ok-ends.ensures c.in_ok-push_some.ensures
