use Rattle.std.proofs.Common.{◌≡◌, ◌+◌, ◌++◌, length}
use Rattle.pg_run.specs.Cuts.{woven}
use Rattle.pg_run.proofs.merge.merged.Given as goal

abbrev pub invariant-loop-write : goal.invariant-loop-write
invariant-loop-write l = l.out ++ woven l.left l.right ≡ woven l.older l.newer

abbrev pub decreases-loop-write : goal.decreases-loop-write
decreases-loop-write l = length l.left + length l.right
