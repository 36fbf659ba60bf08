use Rattle.std.proofs.Common.{◌≡◌, ◌++◌, map, length}
use Rattle.pg_value.specs.Tables.{held_in}
use Rattle.pg_snap.specs.Snapshots.{tables_of}
use Rattle.pg_snap.proofs.ElementLaws.{elem_in}
use Rattle.pg_snap.proofs.snapshot.Snapshot.push_rows.Given as goal

abbrev pub invariant-loop-held : goal.invariant-loop-held
invariant-loop-held l = l.out ++ map (elem_in l.table) l.rows ≡ l.fn.out ++ map (elem_in l.table) (held_in l.table (tables_of l.self))

abbrev pub decreases-loop-held : goal.decreases-loop-held
decreases-loop-held l = length l.rows
