use Rattle.std.proofs.Common.{◌≡◌, drop, map}
use Rattle.pg_catalog.specs.PropertyRows.{row_view, firsts_after}
use Rattle.pg_catalog.proofs.graph.label_agreement.FirstColumns.add_rows.Given as goal

abbrev pub invariant-loop-row : goal.invariant-loop-row
invariant-loop-row l = firsts_after l.self (map row_view (drop l.row-index l.rows)) ≡ firsts_after l.fn.self (map row_view l.rows)
