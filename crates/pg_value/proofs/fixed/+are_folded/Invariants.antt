use Rattle.std.proofs.Common.{length}
use Rattle.pg_value.proofs.fixed.+are_folded.Given as goal

abbrev pub decreases-are_folded : goal.decreases-are_folded
decreases-are_folded l = length l.bytes.now
