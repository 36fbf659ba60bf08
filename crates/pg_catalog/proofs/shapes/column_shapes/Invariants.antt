use Rattle.std.proofs.Common.{◌≡◌, take, map}
use Rattle.pg_catalog.proofs.shapes.column_shapes.Given as goal

abbrev pub invariant-loop-column : goal.invariant-loop-column
invariant-loop-column l = l.out ≡ map (λ c. c.shape) (take l.column-index l.columns)
