use Rattle.std.proofs.Common.{length}
use Rattle.pg_join.proofs.lists.+list_in.Given as goal

abbrev pub decreases-list_in : goal.decreases-list_in
decreases-list_in l = length l.vars.now
