use Rattle.std.proofs.Common.{map, arith}
use Rattle.std.proofs.lemmas.Grind.{common_steps}
use Rattle.std.proofs.lemmas.List.FromFn.{map-range_with_len_more}
use Rattle.pg_rules.specs.Changes.InsertEffect.{given, plain_value}
use Rattle.pg_write.proofs.proposed.values_for.Goals as goal

pub loop-column-preserved : goal.loop-column-preserved
loop-column-preserved c =
    let e = map-range_with_len_more (given c.args.columns.now (map plain_value c.args.tuple.now)) 0 c.loop-column.column c.loop-column.column (omega arith) in
    grind (arith, common_steps)
