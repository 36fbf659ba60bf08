use Rattle.std.proofs.Common.{◌≡◌, ◌++◌, take}
use Rattle.pg_view.specs.RowEnds.{all_ends}
use Rattle.pg_snap.proofs.ends.push_ends.Given as goal

abbrev pub invariant-loop-stored : goal.invariant-loop-stored
invariant-loop-stored l = l.all ≡ l.fn.all ++ all_ends l.shape (take l.stored-index l.rows)
