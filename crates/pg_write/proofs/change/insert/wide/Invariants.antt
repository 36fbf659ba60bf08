use Rattle.std.proofs.Common.{◌≡◌, drop}
use Rattle.std.specs.List.{flat_map}
use Rattle.pg_rules.specs.Places.{least, sooner}
use Rattle.pg_rules.specs.Changes.{wide_in}
use Rattle.pg_meaning.specs.Typing.{no_names}
use Rattle.pg_write.proofs.change.insert.wide.Given as goal

abbrev pub invariant-loop-tuple : goal.invariant-loop-tuple
invariant-loop-tuple l = sooner l.found (least (flat_map (λ t. flat_map (wide_in no_names) t.values) (drop l.tuple-index l.tuples))) ≡ least (flat_map (λ t. flat_map (wide_in no_names) t.values) l.tuples)
