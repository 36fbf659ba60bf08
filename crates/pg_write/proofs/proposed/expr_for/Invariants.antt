use Rattle.std.proofs.Common.{◌≡◌, drop}
use Rattle.pg_write.specs.JudgedRows.{expr_for}
use Rattle.pg_write.proofs.proposed.expr_for.Given as goal

-- the column is not named before
abbrev pub invariant-loop-i : goal.invariant-loop-i
invariant-loop-i l = expr_for l.columns l.tuple l.column ≡ expr_for (drop l.i l.columns) (drop l.i l.tuple) l.column
