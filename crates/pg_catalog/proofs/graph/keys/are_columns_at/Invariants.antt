use Rattle.std.proofs.Common.{◌≡◌, drop}
use Rattle.pg_rules.specs.Definitions.Graphs.{pairwise, is_column_at}
use Rattle.pg_catalog.proofs.graph.keys.are_columns_at.Given as goal

abbrev pub invariant-loop-i : goal.invariant-loop-i
invariant-loop-i l = pairwise (is_column_at l.columns) l.names l.places ≡ pairwise (is_column_at l.columns) (drop l.i l.names) (drop l.i l.places)
