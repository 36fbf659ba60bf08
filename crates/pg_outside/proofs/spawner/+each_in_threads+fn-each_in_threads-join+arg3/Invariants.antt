use Rattle.std.proofs.Common.{◌+◌, ◌*◌, vec_len}
use Rattle.pg_outside.proofs.spawner.+each_in_threads+fn-each_in_threads-join+arg3.Given as goal

abbrev pub decreases-each_in_threads : goal.decreases-each_in_threads
decreases-each_in_threads g l = 2 * vec_len l.tasks

abbrev pub decreases-join+arg3 : goal.decreases-join+arg3
decreases-join+arg3 g l = 2 * vec_len l.tasks + 1
