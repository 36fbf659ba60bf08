use Rattle.std.proofs.Common.{◌≡◌, drop}
use Rattle.pg_view.specs.RowEnds.{has_key}
use Rattle.pg_run.proofs.ends.has_key.Given as goal

abbrev pub invariant-loop-column : goal.invariant-loop-column
invariant-loop-column l = has_key l.columns l.values ≡ has_key (drop l.column-index l.columns) l.values
