use Rattle.std.proofs.Common.{◌≡◌, drop}
use Rattle.pg_rules.specs.Definitions.Graphs.{pairwise, fits_column}
use Rattle.pg_catalog.proofs.graph.keys.fit_columns.Given as goal

abbrev pub invariant-loop-i : goal.invariant-loop-i
invariant-loop-i l = pairwise (fits_column l.columns l.others) l.names l.places ≡ pairwise (fits_column l.columns l.others) (drop l.i l.names) (drop l.i l.places)
