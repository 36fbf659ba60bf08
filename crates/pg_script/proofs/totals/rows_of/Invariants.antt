use Rattle.std.proofs.Common.{◌≡◌, take}
use Rattle.std.specs.List.{sum_by}
use Rattle.pg_script.specs.Generated.{row_count}
use Rattle.pg_script.proofs.totals.rows_of.Given as goal

abbrev pub invariant-loop-outcome : goal.invariant-loop-outcome
invariant-loop-outcome l = l.total ≡ sum_by row_count (take l.outcome-index l.outcomes)
