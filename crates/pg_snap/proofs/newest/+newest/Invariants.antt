use Rattle.std.proofs.Common.{length}
use Rattle.pg_snap.proofs.newest.+newest.Given as goal

abbrev pub decreases-newest : goal.decreases-newest
decreases-newest g l = length l.runs.now
