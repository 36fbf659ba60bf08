use Rattle.std.proofs.Common.{◌≡◌, ◌≤◌, ◌+◌, ◌*◌, take}
use Rattle.pg_value.specs.TablesLaws.{writes_to}
use Rattle.pg_snap.specs.Costs.{run_cost}
use Rattle.pg_snap.specs.Under.{plains, unnamed}
use Rattle.pg_snap.proofs.reached.unnamed.Given as goal

abbrev pub invariant-olds : goal.invariant-olds
invariant-olds g l = record {
  kept : plains l.kept.items ≡ unnamed (writes_to l.table l.run.writes) (plains (take l.old-index l.olds));
  counts : l.fn.steps ≤ l.steps;
  cost : l.steps ≤ l.fn.steps + l.old-index * run_cost l.table l.run;
}
