use Rattle.std.proofs.Common.{◌≡◌, ◌+◌, ◌*◌, ◌≤◌, ◌++◌, take}
use Rattle.pg_view.specs.Lists.{row_cost}
use Rattle.pg_view.specs.Standing.{all_standing}
use Rattle.pg_view.proofs.lists.Lists.push_all_standing.Given as goal

abbrev pub invariant-edges : goal.invariant-edges
invariant-edges g l =
    (l.out ≡ l.fn.out ++ all_standing l.self.tables l.tables.0 l.tables.1 (take l.i l.edges) (take l.i l.others)) × (l.fn.steps ≤ l.steps)
    × (l.steps ≤ l.fn.steps + l.i * (1 + row_cost l.self l.tables.1))
