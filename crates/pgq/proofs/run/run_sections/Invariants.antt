use Rattle.std.proofs.Common.{◌≡◌, length, take}
use Rattle.pgq.specs.Engine.{IsReady}
use Rattle.pgq.specs.Sections.{HaveRun}
use Rattle.pgq.proofs.run.run_sections.Given as goal

abbrev pub invariant-sections : goal.invariant-sections
invariant-sections l = IsReady l.engine × HaveRun l.script (take l.i l.script.sections) l.fn.engine l.outs l.engine × (length l.outs ≡ l.i)
