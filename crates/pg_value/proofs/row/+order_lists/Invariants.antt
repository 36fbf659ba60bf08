use Rattle.std.proofs.Common.{length}
use Rattle.pg_value.proofs.row.+order_lists.Given as goal

abbrev pub decreases-order_lists : goal.decreases-order_lists
decreases-order_lists l = length l.a.now
