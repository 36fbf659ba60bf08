use Rattle.std.proofs.Common.{length}
use Rattle.pg_short.proofs.conditions.+push_on_legs.Given as goal

abbrev pub decreases-push_on_legs : goal.decreases-push_on_legs
decreases-push_on_legs l = length l.legs.now
