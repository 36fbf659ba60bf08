use Rattle.std.proofs.Common.{◌≡◌, ◌+◌, ◌++◌, length}
use Rattle.pg_snap.specs.Under.{woven, plains}
use Rattle.pg_snap.proofs.reached.woven.Given as goal

abbrev pub invariant-loop-next : goal.invariant-loop-next
invariant-loop-next l = plains l.all.items ++ woven (plains l.left) (plains l.right) ≡ woven (plains l.olds) (plains l.news)

abbrev pub decreases-loop-next : goal.decreases-loop-next
decreases-loop-next l = length l.left + length l.right
