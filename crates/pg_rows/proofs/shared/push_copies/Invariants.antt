use Rattle.std.proofs.Common.{◌≡◌, ◌++◌, take}
use Rattle.pg_rows.proofs.shared.push_copies.Given as goal

abbrev pub invariant-rows : goal.invariant-rows
invariant-rows l = l.all.items ≡ l.fn.all.items ++ take l.row-index l.rows
