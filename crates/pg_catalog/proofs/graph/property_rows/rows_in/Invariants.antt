use Rattle.std.proofs.Common.{◌≡◌, ◌++◌, drop, map}
use Rattle.std.specs.List.{flat_map}
use Rattle.pg_catalog.specs.PropertyRows.{row_view}
use Rattle.pg_rules.specs.Definitions.Graphs.{rows_of}
use Rattle.pg_catalog.proofs.graph.property_rows.rows_in.Given as goal

abbrev pub invariant-loop-label : goal.invariant-loop-label
invariant-loop-label l = map row_view l.out.items ++ flat_map rows_of (drop l.label-index l.labels) ≡ flat_map rows_of l.labels
