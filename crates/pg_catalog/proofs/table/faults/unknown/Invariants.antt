use Rattle.std.proofs.Common.{◌≡◌, drop}
use Rattle.pg_rules.specs.Places.{least, sooner}
use Rattle.pg_rules.specs.Definitions.Tables.{unknown}
use Rattle.pg_catalog.proofs.table.faults.unknown.Given as goal

abbrev pub invariant-loop-name : goal.invariant-loop-name
invariant-loop-name l = sooner l.found (least (unknown l.known (drop l.name-index l.names))) ≡ least (unknown l.known l.names)
