use Rattle.std.proofs.Common.{◌==◌, arith}
use Rattle.std.specs.Prelude.{find, slice_index_or}
use Rattle.std.proofs.lemmas.Grind.{common_steps}
use Rattle.std.proofs.lemmas.List.FromFn.{map-range_with_len_more}
use Rattle.pg_value.specs.declared.value.Value.TheVariants.{Null}
use Rattle.pg_rules.specs.Changes.ChangeEffect.{value_set}
use Rattle.pg_write.proofs.proposed.updated.Goals as goal

pub loop-column-preserved : goal.loop-column-preserved
loop-column-preserved c =
    let e = map-range_with_len_more (λ k. value_set (find (λ s. s.column == k) c.args.sets.now) c.args.row.now (slice_index_or c.args.row.now.values k Null)) 0 c.loop-column.column c.loop-column.column (omega arith) in
    grind (arith, common_steps)
