use Rattle.std.proofs.Common.{◌≡◌, drop}
use Rattle.std.specs.List.{flat_map}
use Rattle.pg_rules.specs.Places.{least, sooner}
use Rattle.pg_rules.specs.Changes.InsertJudgement.{wrong_values}
use Rattle.pg_write.proofs.change.insert.types.Given as goal

abbrev pub invariant-loop-tuple : goal.invariant-loop-tuple
invariant-loop-tuple l = sooner l.found (least (flat_map (λ t. wrong_values l.columns l.targets t.values) (drop l.tuple-index l.tuples))) ≡ least (flat_map (λ t. wrong_values l.columns l.targets t.values) l.tuples)
