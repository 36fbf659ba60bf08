use Rattle.pg_work.proofs.Stretches.{each_at, one_more}
use Rattle.pg_work.proofs.stretch.StretchTask.run.Goals as goal

pub starts-preserved : goal.starts-preserved
starts-preserved g c = one_more _ c.args.self.starts.now c.starts.made.items c.push.new.self.items c.starts.start-index c.start-item.result c.in_ok-run.field-0 c.starts-test.true c.start-item.is c.in_ok-push.ensures.items c.starts.invariant c.in_ok-run.ensures

pub run-requires : goal.run-requires
run-requires g c = each_at _ c.args.self.starts.now c.starts.start-index c.start-item.result c.requires c.starts-test.true c.start-item.is
