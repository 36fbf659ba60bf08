use Rattle.std.proofs.Common.{length}
use Rattle.pg_short.proofs.rounds.+along.Given as goal

abbrev pub decreases-along : goal.decreases-along
decreases-along g l = length l.legs.now
