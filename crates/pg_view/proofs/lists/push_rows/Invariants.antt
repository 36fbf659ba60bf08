use Rattle.std.proofs.Common.{◌≡◌, ◌++◌, map, take}
use Rattle.pg_value.specs.Graph.{elem_of}
use Rattle.pg_view.proofs.lists.push_rows.Given as goal

abbrev pub invariant-loop-stored : goal.invariant-loop-stored
invariant-loop-stored l = l.out ≡ l.fn.out ++ map elem_of (take l.stored-index l.rows)
