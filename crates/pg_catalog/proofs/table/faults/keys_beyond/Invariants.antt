use Rattle.std.proofs.Common.{◌≡◌, drop}
use Rattle.std.specs.List.{flat_map}
use Rattle.pg_rules.specs.Places.{least, sooner}
use Rattle.pg_rules.specs.Definitions.Tables.{beyond}
use Rattle.pg_catalog.proofs.table.faults.keys_beyond.Given as goal

abbrev pub invariant-loop-key : goal.invariant-loop-key
invariant-loop-key l = sooner l.found (least (flat_map (beyond 4) (drop l.key-index l.keys))) ≡ least (flat_map (beyond 4) l.keys)
