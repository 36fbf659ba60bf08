use Rattle.std.proofs.Common.{◌≡◌, [], ◌∷◌, ◌++◌, false, arith, rules, sym, ◌∙◌}
use Rattle.std.specs.Option.{unwrap_or}
use Rattle.std.proofs.lemmas.List.FromFn.{map-range_with_len_more}
use Rattle.pg_join.specs.Rows.{grouped}
use Rattle.pg_join.proofs.slots.group_variables.Goals as goal

pub loop-var-preserved : goal.loop-var-preserved
loop-var-preserved c =
    let v = c.loop-var.var in
    let paths = c.args.query.now.paths in
    let group : c.unwrap_or-group.result ≡ unwrap_or (grouped v paths) false = search rules in
    c.in_ok-push.ensures.ok ∙ (λ i. c.loop-var.invariant i ++ group i ∷ []) ∙ sym (map-range_with_len_more (λ x. unwrap_or (grouped x paths) false) 0 v v (omega arith))
