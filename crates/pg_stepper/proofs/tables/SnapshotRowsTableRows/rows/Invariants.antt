use Rattle.std.proofs.Common.{◌≡◌, ◌++◌, map, length}
use Rattle.pg_value.specs.Tables.{held_in}
use Rattle.pg_write.specs.HeldRows.{all_stored}
use Rattle.pg_stepper.proofs.Rows.{of_table}
use Rattle.pg_stepper.proofs.tables.SnapshotRowsTableRows.rows.Given as goal

abbrev pub invariant-loop-held : goal.invariant-loop-held
invariant-loop-held l = all_stored l.out.items ++ map (of_table l.table) l.rows ≡ map (of_table l.table) (held_in l.table l.self)

abbrev pub decreases-loop-held : goal.decreases-loop-held
decreases-loop-held l = length l.rows
