use Rattle.std.proofs.Common.{length}
use Rattle.pg_snap.proofs.reached.+under_runs.Given as goal

abbrev pub decreases-under_runs : goal.decreases-under_runs
decreases-under_runs g l = length l.runs.now
