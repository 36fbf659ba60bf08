use Rattle.std.proofs.Common.{◌≡◌, drop}
use Rattle.std.specs.List.{flat_map}
use Rattle.pg_rules.specs.Places.{least, sooner}
use Rattle.pg_rules.specs.Definitions.Tables.{repeats}
use Rattle.pg_catalog.proofs.name_set.repeated_in_lists.Given as goal

abbrev pub invariant-loop-names : goal.invariant-loop-names
invariant-loop-names l = sooner l.found (least (flat_map repeats (drop l.names-index l.lists))) ≡ least (flat_map repeats l.lists)
