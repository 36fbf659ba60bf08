use Rattle.std.proofs.Common.{◌≡◌, drop}
use Rattle.std.specs.List.{flat_map}
use Rattle.pg_rules.specs.Places.{least, sooner}
use Rattle.pg_rules.specs.Changes.{wide_in, names_of}
use Rattle.pg_write.proofs.change.places.wide_sets.Given as goal

abbrev pub invariant-loop-set : goal.invariant-loop-set
invariant-loop-set l = sooner l.found (least (flat_map (λ s. wide_in (names_of l.columns) s.value) (drop l.set-index l.sets))) ≡ least (flat_map (λ s. wide_in (names_of l.columns) s.value) l.sets)
