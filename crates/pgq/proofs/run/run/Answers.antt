use Rattle.std.proofs.Common.{sym, subst}
use Rattle.pgq.specs.Sections.{IsRun}
use Rattle.pgq.proofs.Runs.Sections.{whole_run}
use Rattle.pgq.proofs.run.run.Goals as goal

pub returns : goal.returns
returns c = subst (IsRun c.args.script.now) (sym c.transcript_of.ensures) (whole_run c.args.script.now c.new-engine.result c.run_sections.new.engine c.in_ok-sections.sections c.in_ok-tables.tables c.requires c.new-engine.ensures.first c.in_ok-sections.ensures c.in_ok-tables.ensures c.stepped_runs_are_legal.ensures)
