use Rattle.std.proofs.Common.{◌≡◌, ◌-◌, ◌≤◌, length, take}
use Rattle.pg_view.specs.RowEnds.{all_ends}
use Rattle.pg_snap.proofs.ends.ends_among.Given as goal

abbrev pub invariant-runs : goal.invariant-runs
invariant-runs l = (l.all ≡ all_ends l.shape (take l.at l.rows)) × (l.at ≤ length l.rows)

abbrev pub decreases-runs : goal.decreases-runs
decreases-runs l = length l.rows - l.at
