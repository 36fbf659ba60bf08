use Rattle.std.proofs.Common.{◌≡◌, ◌++◌, take}
use Rattle.pg_tests.proofs.events.push_runs.Given as goal

abbrev pub invariant-loop-run : goal.invariant-loop-run
invariant-loop-run g l = l.runs ≡ l.fn.runs ++ take l.run-index l.fn.more
