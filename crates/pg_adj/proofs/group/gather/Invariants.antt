use Rattle.std.proofs.Common.{◌≡◌, ◌-◌, ◌≤◌, ◌++◌, length, drop}
use Rattle.pg_adj.specs.Gather.{plains, gather}
use Rattle.pg_adj.proofs.group.gather.Given as goal

abbrev pub invariant-groups : goal.invariant-groups
invariant-groups l = (l.start ≤ length l.seen) × (l.groups.items ++ gather (plains (drop l.start l.seen)) ≡ gather (plains l.seen))

abbrev pub decreases-groups : goal.decreases-groups
decreases-groups l = length l.seen - l.start
