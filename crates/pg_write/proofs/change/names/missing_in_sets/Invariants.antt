use Rattle.std.proofs.Common.{◌≡◌, drop}
use Rattle.std.specs.List.{flat_map}
use Rattle.pg_rules.specs.Places.{least, sooner}
use Rattle.pg_write.specs.ChangePasses.{missing_in_set}
use Rattle.pg_write.proofs.change.names.missing_in_sets.Given as goal

abbrev pub invariant-loop-set : goal.invariant-loop-set
invariant-loop-set l = sooner l.found (least (flat_map (missing_in_set l.columns) (drop l.set-index l.sets))) ≡ least (flat_map (missing_in_set l.columns) l.sets)
