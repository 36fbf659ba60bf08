use Rattle.std.proofs.Common.{◌≡◌, ◌-◌, ◌≤◌, length, take}
use Rattle.pg_snap.proofs.vertices.copies.Given as goal

abbrev pub invariant-runs : goal.invariant-runs
invariant-runs l = (l.all.items ≡ take l.at l.vertices) × (l.at ≤ length l.vertices)

abbrev pub decreases-runs : goal.decreases-runs
decreases-runs l = length l.vertices - l.at
