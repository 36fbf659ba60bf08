use Rattle.std.proofs.Common.{List, [], ◌∷◌, ◌++◌, ap, ◌∙◌, arith}
use Rattle.std.specs.Cmp.Lexicographic.{pointwise}
use Rattle.std.specs.Map.{lookup}
use Rattle.indexmap.specs.IndexMap.{get_by}
use Rattle.pg_value.specs.declared.shape.ElemId.{ElemId}
use Rattle.pg_value.specs.Graph.{same_elem}
use Rattle.pg_join.proofs.Places.{one_more_indexed, all_indexed}
use Rattle.pg_join.proofs.Steps.{there}
use Rattle.pg_join.proofs.Lookups.{after_insert}
use Rattle.pg_join.proofs.joining.indexed.Goals as goal

pub loop-place-preserved : goal.loop-place-preserved
loop-place-preserved c =
    let kept = c.args.kept.now in
    let n = c.loop-place.place in
    let b = c.index-kept-place.result in
    let key = c.in_ok-key.key in
    let known = λ (ks : List ElemId). get_by (λ k. pointwise same_elem ks k.items) c.loop-place.last in
    let more = λ (ks : List ElemId). get_by (λ k. pointwise same_elem ks k.items) c.put_last.new.last in
    one_more_indexed c.args.vars.now c.args.path.now kept n known more c.loop-place.before c.push.new.self b key.items c.loop-place.invariant
    (there kept n b c.loop-place-test.true c.index-kept-place.is) c.in_ok-key.ensures
    (λ ks. ap (lookup (λ k. pointwise same_elem ks k.items)) c.in_ok-known.ensures.new ∙ after_insert (λ k. k.items) c.loop-place.last.entries key n ks)
    (c.in_ok-push.ensures.ok ∙ ap (λ o. c.loop-place.before ++ o ∷ []) c.in_ok-known.ensures.old)

pub returns : goal.returns
returns c =
    let l = c.loop-place-test.false in
    let m = c.loop-place.auto.place-end in
    all_indexed c.args.vars.now c.args.path.now c.args.kept.now c.loop-place.place _ c.loop-place.before (omega arith) c.loop-place.invariant
