use Rattle.std.proofs.Common.{◌≡◌, ◌++◌, drop}
use Rattle.pg_write.specs.HeldRows.{all_stored}
use Rattle.pg_write.proofs.tables.push_run.Given as goal

abbrev pub invariant-loop-stored : goal.invariant-loop-stored
invariant-loop-stored l = all_stored l.out.items ++ drop l.stored-index l.rows ≡ all_stored l.fn.out.items ++ l.rows
