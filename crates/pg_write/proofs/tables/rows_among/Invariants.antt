use Rattle.std.proofs.Common.{◌≡◌, ◌-◌, ◌≤◌, ◌++◌, length, drop}
use Rattle.pg_write.specs.HeldRows.{all_stored}
use Rattle.pg_write.proofs.tables.rows_among.Given as goal

abbrev pub invariant-runs : goal.invariant-runs
invariant-runs l = (all_stored l.out.items ++ drop l.at l.rows ≡ l.rows) × (l.at ≤ length l.rows)

abbrev pub decreases-runs : goal.decreases-runs
decreases-runs l = length l.rows - l.at
