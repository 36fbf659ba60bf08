use Rattle.std.proofs.Common.{◌≡◌, take}
use Rattle.pg_rows.proofs.arrays.RowArrays.share.Given as goal

abbrev pub invariant-loop-rows : goal.invariant-loop-rows
invariant-loop-rows l = l.tables.items ≡ take l.rows-index l.self
