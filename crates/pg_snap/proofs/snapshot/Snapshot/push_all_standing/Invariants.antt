use Rattle.std.proofs.Common.{◌≡◌, ◌+◌, ◌*◌, ◌≤◌, ◌++◌, take}
use Rattle.pg_snap.specs.Costs.{find_cost}
use Rattle.pg_snap.specs.Snapshots.{tables_of}
use Rattle.pg_snap.specs.Under.{all_standing, plains}
use Rattle.pg_snap.proofs.snapshot.Snapshot.push_all_standing.Given as goal

abbrev pub invariant-edges : goal.invariant-edges
invariant-edges g l = record {
  out : l.out ≡ l.fn.out ++ all_standing (tables_of l.self) l.tables.0 l.tables.1 (plains (take l.reached-index l.all));
  counts : l.fn.steps ≤ l.steps;
  cost : l.steps ≤ l.fn.steps + l.reached-index * (1 + find_cost l.self l.tables.1);
}
