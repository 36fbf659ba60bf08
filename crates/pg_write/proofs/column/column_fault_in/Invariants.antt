use Rattle.std.proofs.Common.{◌≡◌, drop}
use Rattle.pg_rules.specs.Changes.InsertEffect.{column_fault}
use Rattle.pg_write.proofs.column.column_fault_in.Given as goal

abbrev pub invariant-loop-i : goal.invariant-loop-i
invariant-loop-i l = column_fault l.shape 0 l.columns l.row ≡ column_fault l.shape l.i (drop l.i l.columns) (drop l.i l.row)
