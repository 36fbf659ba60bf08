use Rattle.pg_check.specs.ColumnPlaces.{AreColumns}
use Rattle.pg_check.proofs.column_places.ColumnPlaces.of.Given as goal

abbrev pub invariant-loop-expr : goal.invariant-loop-expr
invariant-loop-expr l = AreColumns l.catalog l.graph l.places
