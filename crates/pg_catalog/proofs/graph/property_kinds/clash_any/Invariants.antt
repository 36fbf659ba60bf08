use Rattle.std.proofs.Common.{◌≡◌, drop, map}
use Rattle.pg_catalog.specs.PropertyRows.{row_view, clash_with}
use Rattle.pg_catalog.proofs.graph.property_kinds.clash_any.Given as goal

abbrev pub invariant-loop-row : goal.invariant-loop-row
invariant-loop-row l = clash_with l.kind l.names (map row_view l.rows) ≡ clash_with l.kind l.names (map row_view (drop l.row-index l.rows))
