use Rattle.std.proofs.Common.{◌≡◌, map}
use Rattle.std.specs.List.{range_with_len}
use Rattle.pg_rules.specs.Changes.InsertEffect.{given, plain_value}
use Rattle.pg_write.proofs.proposed.values_for.Given as goal

abbrev pub invariant-loop-column : goal.invariant-loop-column
invariant-loop-column l = l.out ≡ map (given l.columns (map plain_value l.tuple)) (range_with_len 0 l.column)
