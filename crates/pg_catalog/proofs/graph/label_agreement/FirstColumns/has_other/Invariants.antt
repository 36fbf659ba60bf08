use Rattle.std.proofs.Common.{◌≡◌, drop, map}
use Rattle.pg_catalog.specs.PropertyRows.{row_view, other_column}
use Rattle.pg_catalog.proofs.graph.label_agreement.FirstColumns.has_other.Given as goal

abbrev pub invariant-loop-row : goal.invariant-loop-row
invariant-loop-row l = other_column l.self (map row_view l.rows) ≡ other_column l.self (map row_view (drop l.row-index l.rows))
