use Rattle.std.proofs.Common.{length}
use Rattle.pg_snap.proofs.changes.+with_runs.Given as goal

abbrev pub decreases-with_runs : goal.decreases-with_runs
decreases-with_runs l = length l.runs.now
