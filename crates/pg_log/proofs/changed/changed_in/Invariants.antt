use Rattle.std.proofs.Common.{◌≡◌, ◌+◌, take}
use Rattle.pg_log.specs.Logged.{changed_from}
use Rattle.pg_log.proofs.changed.changed_in.Given as goal

abbrev pub invariant-loop-commit : goal.invariant-loop-commit
invariant-loop-commit l = record {
  found : l.found ≡ changed_from 0 (l.from + 1) (take l.commit-index l.commits) l.writes.list;
  number : l.no ≡ l.from + l.commit-index;
}
