use Rattle.std.proofs.Common.{◌≡◌, drop}
use Rattle.std.specs.List.{flat_map}
use Rattle.pg_rules.specs.Places.{least, sooner}
use Rattle.pg_rules.specs.Definitions.Tables.{unknown}
use Rattle.pg_catalog.proofs.table.faults.unknown_in.Given as goal

abbrev pub invariant-loop-key : goal.invariant-loop-key
invariant-loop-key l = sooner l.found (least (flat_map (unknown l.known) (drop l.key-index l.keys))) ≡ least (flat_map (unknown l.known) l.keys)
