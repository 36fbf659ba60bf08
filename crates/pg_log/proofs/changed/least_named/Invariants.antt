use Rattle.std.proofs.Common.{◌≡◌, take}
use Rattle.pg_log.specs.Logged.{first_named}
use Rattle.pg_log.proofs.changed.least_named.Given as goal

abbrev pub invariant-loop-at : goal.invariant-loop-at
invariant-loop-at l = l.least ≡ first_named 0 (take l.at l.commit.list) l.writes.list
