use Rattle.std.proofs.Common.{◌≡◌, [], map, false}
use Rattle.std.specs.Prelude.{slice_get}
use Rattle.std.specs.List.{range_with_len}
use Rattle.std.specs.Option.{unwrap_or}
use Rattle.pg_join.specs.Joining.{list_of}
use Rattle.pg_join.specs.Rows.{slot_with}
use Rattle.pg_join.proofs.slots.bound_of.Given as goal

abbrev pub invariant-loop-var : goal.invariant-loop-var
invariant-loop-var l = l.vars ≡ map (λ x. slot_with (unwrap_or (slice_get l.groups x) false) (unwrap_or (list_of l.query.paths (map (λ b. b.now) l.tuple) x) [])) (range_with_len 0 l.var)
