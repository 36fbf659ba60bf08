use Rattle.std.proofs.Common.{◌≡◌, take}
use Rattle.pg_value.specs.Tables.{pick}
use Rattle.pg_run.proofs.ends.picked.Given as goal

abbrev pub invariant-loop-column : goal.invariant-loop-column
invariant-loop-column l = l.picked ≡ pick (take l.column-index l.columns) l.values
