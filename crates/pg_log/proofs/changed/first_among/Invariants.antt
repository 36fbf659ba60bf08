use Rattle.std.proofs.Common.{◌≡◌, drop}
use Rattle.pg_log.specs.Logged.{first_named}
use Rattle.pg_log.proofs.changed.first_among.Given as goal

abbrev pub invariant-loop-at : goal.invariant-loop-at
invariant-loop-at l = first_named l.at l.commit.list (drop l.at l.writes.list) ≡ first_named 0 l.commit.list l.writes.list
