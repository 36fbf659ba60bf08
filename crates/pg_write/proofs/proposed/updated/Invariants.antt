use Rattle.std.proofs.Common.{◌≡◌, ◌==◌, map}
use Rattle.std.specs.Prelude.{find, slice_index_or}
use Rattle.std.specs.List.{range_with_len}
use Rattle.pg_value.specs.declared.value.Value.TheVariants.{Null}
use Rattle.pg_rules.specs.Changes.ChangeEffect.{value_set}
use Rattle.pg_write.proofs.proposed.updated.Given as goal

abbrev pub invariant-loop-column : goal.invariant-loop-column
invariant-loop-column l = l.out ≡ map (λ c. value_set (find (λ s. s.column == c) l.sets) l.row (slice_index_or l.row.values c Null)) (range_with_len 0 l.column)
