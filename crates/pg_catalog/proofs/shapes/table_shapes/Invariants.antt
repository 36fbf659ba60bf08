use Rattle.std.proofs.Common.{◌≡◌, ◌++◌}
use Rattle.pg_rules.specs.Catalog.Shapes as spec
use Rattle.pg_catalog.proofs.shapes.table_shapes.Given as goal

abbrev pub invariant-loop-table : goal.invariant-loop-table
invariant-loop-table l = l.out ++ spec.table_shapes l.table-iterator ≡ spec.table_shapes l.tables.entries
