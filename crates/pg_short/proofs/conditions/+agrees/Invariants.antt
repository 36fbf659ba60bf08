use Rattle.std.proofs.Common.{length}
use Rattle.pg_short.proofs.conditions.+agrees.Given as goal

abbrev pub decreases-agrees : goal.decreases-agrees
decreases-agrees l = length l.seen.now
