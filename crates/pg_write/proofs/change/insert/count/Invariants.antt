use Rattle.std.proofs.Common.{◌≡◌, drop}
use Rattle.std.specs.List.{flat_map}
use Rattle.pg_rules.specs.Places.{least, sooner}
use Rattle.pg_write.specs.ChangePasses.{miscounted}
use Rattle.pg_write.proofs.change.insert.count.Given as goal

abbrev pub invariant-loop-tuple : goal.invariant-loop-tuple
invariant-loop-tuple l = sooner l.found (least (flat_map (miscounted l.number) (drop l.tuple-index l.tuples))) ≡ least (flat_map (miscounted l.number) l.tuples)
