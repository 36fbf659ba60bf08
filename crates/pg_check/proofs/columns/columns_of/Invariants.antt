use Rattle.std.proofs.Common.{◌≡◌, map}
use Rattle.std.specs.List.{range_with_len}
use Rattle.pg_rules.specs.Catalog.LookUps.{table_number}
use Rattle.pg_rules.specs.Catalog.GraphLookUps.{property_at}
use Rattle.pg_check.proofs.columns.columns_of.Given as goal

abbrev pub invariant-loop-table : goal.invariant-loop-table
invariant-loop-table l = l.out ≡ map (λ t. property_at l.catalog l.graph (table_number t) l.name) (range_with_len 0 l.table)
