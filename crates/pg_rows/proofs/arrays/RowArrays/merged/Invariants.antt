use Rattle.pg_rows.proofs.Merging.{UnderTo}
use Rattle.pg_rows.proofs.arrays.RowArrays.merged.Given as goal

abbrev pub invariant-loop-table : goal.invariant-loop-table
invariant-loop-table l = UnderTo l.self l.lists l.table l.tables.items
