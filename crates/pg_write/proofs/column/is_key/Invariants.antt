use Rattle.std.proofs.Common.{◌≡◌, drop}
use Rattle.std.specs.Prelude.{◌==◌}
use Rattle.std.specs.List.{list_any}
use Rattle.pg_write.proofs.column.is_key.Given as goal

abbrev pub invariant-loop-column : goal.invariant-loop-column
invariant-loop-column l = list_any (λ k. k == l.place) l.shape.key ≡ list_any (λ k. k == l.place) (drop l.column-index l.shape.key)
