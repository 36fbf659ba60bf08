use Rattle.std.proofs.Common.{◌≡◌, take}
use Rattle.pg_rows.proofs.arrays.RowArrays.build.Given as goal

abbrev pub invariant-loop-list : goal.invariant-loop-list
invariant-loop-list l = l.tables.items ≡ take l.list-index l.lists
