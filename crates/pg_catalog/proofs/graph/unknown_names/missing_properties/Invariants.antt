use Rattle.std.proofs.Common.{◌≡◌, drop}
use Rattle.pg_rules.specs.Places.{least, sooner}
use Rattle.pg_rules.specs.Definitions.Graphs.{missing, column_names}
use Rattle.pg_catalog.proofs.graph.unknown_names.missing_properties.Given as goal

abbrev pub invariant-loop-property : goal.invariant-loop-property
invariant-loop-property l = sooner l.found (least (missing l.columns (column_names (drop l.property-index l.properties)))) ≡ least (missing l.columns (column_names l.properties))
