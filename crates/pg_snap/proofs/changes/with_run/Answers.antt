use Rattle.std.proofs.Common.{◌∙◌, sym}
use Rattle.pg_snap.specs.Scans.{writes_of}
use Rattle.pg_snap.proofs.ScanLaws.{both_nothing}
use Rattle.pg_snap.proofs.StepLaws.{empty_is}
use Rattle.pg_snap.proofs.changes.with_run.Goals as goal

pub returns-then-is_empty : goal.returns-then-is_empty
returns-then-is_empty c = both_nothing (writes_of c.args.older.items) _ (sym c.writes-newer.ensures.value ∙ empty_is c.writes-newer.result.now c.is_empty.result c.is_empty.ensures c.if-is_empty.true)
