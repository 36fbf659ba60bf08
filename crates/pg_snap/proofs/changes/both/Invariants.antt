use Rattle.std.proofs.Common.{◌≡◌, ◌+◌, ◌++◌, length}
use Rattle.pg_snap.specs.Scans.{both, writes_of}
use Rattle.pg_snap.proofs.changes.both.Given as goal

abbrev pub invariant-loop-change : goal.invariant-loop-change
invariant-loop-change l = writes_of l.all.items ++ both (writes_of l.left) l.right ≡ both (writes_of l.older) l.newer

abbrev pub decreases-loop-change : goal.decreases-loop-change
decreases-loop-change l = length l.left + length l.right
