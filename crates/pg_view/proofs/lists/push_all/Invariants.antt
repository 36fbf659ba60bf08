use Rattle.std.proofs.Common.{◌≡◌, ◌-◌, ◌≤◌, ◌++◌, length, map, take}
use Rattle.pg_value.specs.Graph.{elem_of}
use Rattle.pg_view.proofs.lists.push_all.Given as goal

abbrev pub invariant-runs : goal.invariant-runs
invariant-runs l = (l.out ≡ l.fn.out ++ map elem_of (take l.at l.rows)) × (l.at ≤ length l.rows)

abbrev pub decreases-runs : goal.decreases-runs
decreases-runs l = length l.rows - l.at
