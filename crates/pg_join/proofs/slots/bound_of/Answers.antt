use Rattle.std.proofs.Common.{◌≡◌, [], ◌∷◌, ◌++◌, false, map, arith, rules, sym, ◌∙◌}
use Rattle.std.specs.Prelude.{slice_get}
use Rattle.std.specs.Option.{unwrap_or}
use Rattle.std.proofs.lemmas.List.FromFn.{map-range_with_len_more}
use Rattle.pg_join.specs.Joining.{list_of}
use Rattle.pg_join.specs.Rows.{slot_with}
use Rattle.pg_join.proofs.slots.bound_of.Goals as goal

pub loop-var-preserved : goal.loop-var-preserved
loop-var-preserved c =
    let v = c.loop-var.var in
    let paths = c.args.query.now.paths in
    let groups = c.args.groups.now in
    let tuple = map (λ b. b.now) c.args.tuple.now in
    let slot : c.in_ok-slot.slot ≡ slot_with (unwrap_or (slice_get groups v) false) (unwrap_or (list_of paths tuple v) []) = search rules in
    c.in_ok-push.ensures.ok ∙ (λ i. c.loop-var.invariant i ++ slot i ∷ [])
    ∙ sym (map-range_with_len_more (λ x. slot_with (unwrap_or (slice_get groups x) false) (unwrap_or (list_of paths tuple x) [])) 0 v v (omega arith))
