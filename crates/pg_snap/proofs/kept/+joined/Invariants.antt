use Rattle.std.proofs.Common.{length}
use Rattle.pg_snap.proofs.kept.+joined.Given as goal

abbrev pub decreases-joined : goal.decreases-joined
decreases-joined l = length l.older.now
