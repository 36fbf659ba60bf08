use Rattle.pg_core.specs.declared.parts.Begin.TheVariants as begins
use Rattle.pg_core.proofs.Replays.{begin_takes}
use Rattle.pg_core.proofs.events.Replayed.begin_fold.Goals as goal

pub returns-in-Ok : goal.returns-in-Ok
returns-in-Ok g c =
    begin_takes g.B.Base.base g.R.Run.run c.args.self.now c.self.inside.state c.begin_fold.new.self c.args.seat c.in_ok-job.field-0 (begins.Job c.in-Job.job) c.self.view_is c.requires c.in_ok-job.ensures.ok c.in-Job.is

pub returns-in-NotYet : goal.returns-in-NotYet
returns-in-NotYet g c =
    begin_takes g.B.Base.base g.R.Run.run c.args.self.now c.self.inside.state c.begin_fold.new.self c.args.seat c.in_ok-job.field-0 begins.NotYet c.self.view_is c.requires c.in_ok-job.ensures.ok c.in-NotYet.is

pub returns-in-Stopped : goal.returns-in-Stopped
returns-in-Stopped g c =
    begin_takes g.B.Base.base g.R.Run.run c.args.self.now c.self.inside.state c.begin_fold.new.self c.args.seat c.in_ok-job.field-0 begins.Stopped c.self.view_is c.requires c.in_ok-job.ensures.ok c.in-Stopped.is
