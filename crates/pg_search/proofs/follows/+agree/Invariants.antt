use Rattle.std.proofs.Common.{length}
use Rattle.pg_search.proofs.follows.+agree.Given as goal

abbrev pub decreases-agree : goal.decreases-agree
decreases-agree l = length l.seen.now
