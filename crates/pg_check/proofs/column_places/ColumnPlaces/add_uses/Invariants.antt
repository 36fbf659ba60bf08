use Rattle.pg_check.specs.ColumnPlaces.{AreColumns}
use Rattle.pg_check.proofs.column_places.ColumnPlaces.add_uses.Given as goal

abbrev pub invariant-loop-one : goal.invariant-loop-one
invariant-loop-one l = AreColumns l.catalog l.graph l.self
