use Rattle.std.proofs.Common.{◌≡◌}
use Rattle.std.proofs.Common.{take, map}
use Rattle.pg_rules.specs.Changes.InsertJudgement.{resolved_tuple}
use Rattle.pg_write.proofs.change.checked.resolved_tuples.Given as goal

abbrev pub invariant-loop-tuple : goal.invariant-loop-tuple
invariant-loop-tuple l = l.out ≡ map resolved_tuple (take l.tuple-index l.tuples)
