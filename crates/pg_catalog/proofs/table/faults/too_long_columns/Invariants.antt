use Rattle.std.proofs.Common.{◌≡◌, drop}
use Rattle.std.specs.List.{flat_map}
use Rattle.pg_rules.specs.Places.{least, sooner}
use Rattle.pg_rules.specs.Definitions.Tables.{too_long_column}
use Rattle.pg_catalog.proofs.table.faults.too_long_columns.Given as goal

abbrev pub invariant-loop-column : goal.invariant-loop-column
invariant-loop-column l = sooner l.found (least (flat_map too_long_column (drop l.column-index l.columns))) ≡ least (flat_map too_long_column l.columns)
