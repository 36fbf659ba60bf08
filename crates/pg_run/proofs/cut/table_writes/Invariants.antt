use Rattle.std.proofs.Common.{◌≡◌, ◌++◌, drop}
use Rattle.pg_run.specs.Cuts.{leading}
use Rattle.pg_run.proofs.cut.table_writes.Given as goal

abbrev pub invariant-loop-at : goal.invariant-loop-at
invariant-loop-at l = l.list ++ leading l.table (drop l.at l.writes.list) ≡ leading l.table (drop l.from l.writes.list)
