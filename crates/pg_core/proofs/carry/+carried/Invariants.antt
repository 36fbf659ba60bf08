use Rattle.std.proofs.Common.{length}
use Rattle.pg_core.proofs.carry.+carried.Given as goal

abbrev pub decreases-carried : goal.decreases-carried
decreases-carried g l = length l.runs.now
