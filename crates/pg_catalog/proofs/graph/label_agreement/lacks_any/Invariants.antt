use Rattle.std.proofs.Common.{◌≡◌, drop, map}
use Rattle.pg_catalog.specs.PropertyRows.{row_view, lacks_of}
use Rattle.pg_catalog.proofs.graph.label_agreement.lacks_any.Given as goal

abbrev pub invariant-loop-row : goal.invariant-loop-row
invariant-loop-row l = lacks_of l.kind l.labels l.pairs (map row_view l.rows) ≡ lacks_of l.kind l.labels l.pairs (map row_view (drop l.row-index l.rows))
