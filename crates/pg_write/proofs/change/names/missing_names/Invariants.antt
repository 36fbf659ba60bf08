use Rattle.std.proofs.Common.{◌≡◌, drop}
use Rattle.pg_rules.specs.Definitions.Graphs.{missing}
use Rattle.pg_rules.specs.Places.{least, sooner}
use Rattle.pg_write.proofs.change.names.missing_names.Given as goal

abbrev pub invariant-loop-name : goal.invariant-loop-name
invariant-loop-name l = sooner l.found (least (missing l.columns (drop l.name-index l.names))) ≡ least (missing l.columns l.names)
