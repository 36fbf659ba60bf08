use Rattle.std.proofs.Common.{◌≡◌, map, false}
use Rattle.std.specs.List.{range_with_len}
use Rattle.std.specs.Option.{unwrap_or}
use Rattle.pg_join.specs.Rows.{grouped}
use Rattle.pg_join.proofs.slots.group_variables.Given as goal

abbrev pub invariant-loop-var : goal.invariant-loop-var
invariant-loop-var l = l.groups ≡ map (λ x. unwrap_or (grouped x l.query.paths) false) (range_with_len 0 l.var)
