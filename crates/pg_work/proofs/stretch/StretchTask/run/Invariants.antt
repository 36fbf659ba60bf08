-- What the job gave for the starts so far.
use Rattle.std.proofs.Common.{take}
use Rattle.std.specs.List.{AllZip}
use Rattle.pg_work.proofs.stretch.StretchTask.run.Given as goal

abbrev pub invariant-starts : goal.invariant-starts
invariant-starts g l = AllZip (g.J.StartJob.promise l.self.job.now) (take l.start-index l.start-items) l.made.items
