use Rattle.std.proofs.Common.{◌≡◌, map, take}
use Rattle.std.specs.Prelude.{flat_map}
use Rattle.pg_join.specs.Rows.{rows_of}
use Rattle.pg_join.proofs.rows.rows_of.Given as goal

abbrev pub invariant-loop-tuple : goal.invariant-loop-tuple
invariant-loop-tuple g l = l.rows.items ≡ flat_map (λ t. rows_of (g.V.View.tables l.view) l.query (map (λ b. b.now) t)) (take l.tuple-index l.tuples)
