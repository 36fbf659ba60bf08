use Rattle.std.proofs.Common.{◌≡◌, take, map}
use Rattle.pg_check.specs.Resolved.{capped_column, names_in}
use Rattle.pg_check.specs.Scopes.{scope}
use Rattle.pg_check.proofs.items.checked_columns.Given as goal

abbrev pub invariant-loop-item : goal.invariant-loop-item
invariant-loop-item l = l.out ≡ map (capped_column l.catalog l.graph (names_in l.variables) (scope l.kinds)) (take l.item-index l.items)
