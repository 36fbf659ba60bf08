use Rattle.std.proofs.Common.{◌≡◌, take}
use Rattle.pg_value.specs.Tables.{pick}
use Rattle.pg_write.proofs.values.pick.Given as goal

abbrev pub invariant-loop-column : goal.invariant-loop-column
invariant-loop-column l = l.out ≡ pick (take l.column-index l.columns) l.values
