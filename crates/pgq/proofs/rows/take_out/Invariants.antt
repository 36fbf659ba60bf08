use Rattle.std.proofs.Common.{◌≡◌, take}
use Rattle.std.specs.Prelude.{filter}
use Rattle.pgq.proofs.Commits.TakenOut.{is_left}
use Rattle.pgq.proofs.rows.take_out.Given as goal

abbrev pub invariant-loop-at : goal.invariant-loop-at
invariant-loop-at l = l.kept ≡ filter (is_left l.table l.writes.list) (take l.at l.rows)
