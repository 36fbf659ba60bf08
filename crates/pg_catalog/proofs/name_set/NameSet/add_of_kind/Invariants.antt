use Rattle.std.proofs.Common.{◌≡◌, drop, map}
use Rattle.pg_catalog.specs.PropertyRows.{row_view, names_after}
use Rattle.pg_catalog.proofs.name_set.NameSet.add_of_kind.Given as goal

abbrev pub invariant-loop-row : goal.invariant-loop-row
invariant-loop-row l = names_after l.kind l.self (map row_view (drop l.row-index l.rows)) ≡ names_after l.kind l.fn.self (map row_view l.rows)
