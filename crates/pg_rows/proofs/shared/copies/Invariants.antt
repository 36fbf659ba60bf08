use Rattle.std.proofs.Common.{◌≡◌, ◌-◌, ◌≤◌, length, take}
use Rattle.pg_rows.proofs.shared.copies.Given as goal

abbrev pub invariant-runs : goal.invariant-runs
invariant-runs l = (l.all.items ≡ take l.at l.rows) × (l.at ≤ length l.rows)

abbrev pub decreases-runs : goal.decreases-runs
decreases-runs l = length l.rows - l.at
