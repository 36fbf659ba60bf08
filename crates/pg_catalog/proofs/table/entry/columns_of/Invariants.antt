use Rattle.std.proofs.Common.{◌≡◌, take, map}
use Rattle.pg_rules.specs.Definitions.Tables.{column_of}
use Rattle.pg_catalog.proofs.table.entry.columns_of.Given as goal

abbrev pub invariant-loop-column : goal.invariant-loop-column
invariant-loop-column l = l.out ≡ map (column_of l.key) (take l.column-index l.columns)
