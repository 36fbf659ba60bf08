use Rattle.std.proofs.Common.{◌≡◌, drop}
use Rattle.std.specs.List.{flat_map}
use Rattle.pg_rules.specs.Places.{least, sooner}
use Rattle.pg_rules.specs.Changes.{wide_in}
use Rattle.pg_meaning.specs.Typing.{no_names}
use Rattle.pg_write.proofs.change.insert.wide_values.Given as goal

abbrev pub invariant-loop-value : goal.invariant-loop-value
invariant-loop-value l = sooner l.found (least (flat_map (wide_in no_names) (drop l.value-index l.values))) ≡ least (flat_map (wide_in no_names) l.values)
