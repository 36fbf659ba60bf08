use Rattle.std.proofs.Common.{◌<◌, List, get_or, map, sym, subst, ap, ◌∙◌}
use Rattle.std.specs.Prelude.{Some}
use Rattle.std.specs.Cmp.Lexicographic.{pointwise}
use Rattle.indexmap.specs.IndexMap.{get_by}
use Rattle.pg_value.specs.declared.shape.ElemId.{ElemId}
use Rattle.pg_value.specs.Graph.{same_elem}
use Rattle.pg_join.proofs.Places.{walk_from, walk_within, walk_on, walk_falls, walked}
use Rattle.pg_join.proofs.Steps.{there, option_at}
use Rattle.pg_join.proofs.joining.push_longer.Goals as goal

pub loop-at-init : goal.loop-at-init
loop-at-init c =
    let known = λ (ks : List ElemId). get_by (λ k. pointwise same_elem ks k.items) c.args.index.now.last in
    walk_from c.args.joint.vars.now c.args.joint.before.now c.args.joint.path.now c.args.joint.kept.now known c.args.index.now.before c.requires (map (λ b. b.now) c.args.tuple.now) c.in_ok-key.key.items
    _ c.copied-at.result (c.copied-at.ensures ∙ c.get.ensures.value ∙ ap known c.as_slice.ensures.value)

pub bounds-joint-place : goal.bounds-joint-place
bounds-joint-place c =
    let known = λ (ks : List ElemId). get_by (λ k. pointwise same_elem ks k.items) c.args.index.now.last in
    walk_within c.args.joint.vars.now c.args.joint.before.now c.args.joint.path.now c.args.joint.kept.now known c.args.index.now.before c.requires (map (λ b. b.now) c.args.tuple.now) c.in_ok-key.key.items
    _ _ c.loop-at.at c.in-Some.place c.in-Some.is c.loop-at.invariant

pub at-at-requires : goal.at-at-requires
at-at-requires c =
    let known = λ (ks : List ElemId). get_by (λ k. pointwise same_elem ks k.items) c.args.index.now.last in
    let l = walk_within c.args.joint.vars.now c.args.joint.before.now c.args.joint.path.now c.args.joint.kept.now known c.args.index.now.before c.requires (map (λ b. b.now) c.args.tuple.now) c.in_ok-key.key.items
    _ _ c.loop-at.at c.in-Some.place c.in-Some.is c.loop-at.invariant in
    subst (λ n. c.in-Some.place < n) (sym c.requires.long) l

pub loop-at-smaller : goal.loop-at-smaller
loop-at-smaller c =
    let known = λ (ks : List ElemId). get_by (λ k. pointwise same_elem ks k.items) c.args.index.now.last in
    let kept = c.args.joint.kept.now in
    let l = walk_within c.args.joint.vars.now c.args.joint.before.now c.args.joint.path.now kept known c.args.index.now.before c.requires (map (λ b. b.now) c.args.tuple.now) c.in_ok-key.key.items
    _ _ c.loop-at.at c.in-Some.place c.in-Some.is c.loop-at.invariant in
    walk_falls c.args.joint.vars.now c.args.joint.before.now c.args.joint.path.now kept known c.args.index.now.before c.requires (map (λ b. b.now) c.args.tuple.now) c.in_ok-key.key.items
    c.loop-at.at c.at-at.result.now c.in-Some.place c.index-joint-place.result c.in-Some.is (there kept c.in-Some.place c.index-joint-place.result l c.index-joint-place.is)
    (option_at c.args.index.now.before c.in-Some.place c.at-at.result.now (subst (λ n. c.in-Some.place < n) (sym c.requires.long) l) c.at-at.ensures)

pub loop-at-preserved : goal.loop-at-preserved
loop-at-preserved c =
    let known = λ (ks : List ElemId). get_by (λ k. pointwise same_elem ks k.items) c.args.index.now.last in
    let kept = c.args.joint.kept.now in
    let l = walk_within c.args.joint.vars.now c.args.joint.before.now c.args.joint.path.now kept known c.args.index.now.before c.requires (map (λ b. b.now) c.args.tuple.now) c.in_ok-key.key.items
    _ _ c.loop-at.at c.in-Some.place c.in-Some.is c.loop-at.invariant in
    walk_on c.args.joint.vars.now c.args.joint.before.now c.args.joint.path.now kept known c.args.index.now.before c.requires (map (λ b. b.now) c.args.tuple.now) c.in_ok-key.key.items
    _ _ _ c.loop-at.at c.at-at.result.now c.in-Some.place (get_or kept c.in-Some.place c.index-joint-place.result) c.in-Some.is (there kept c.in-Some.place c.index-joint-place.result l c.index-joint-place.is ∙ ap Some c.index-joint-place.is)
    c.loop-at.invariant c.in_ok-push_agreeing.ensures
    (option_at c.args.index.now.before c.in-Some.place c.at-at.result.now (subst (λ n. c.in-Some.place < n) (sym c.requires.long) l) c.at-at.ensures)

pub returns : goal.returns
returns c =
    let known = λ (ks : List ElemId). get_by (λ k. pointwise same_elem ks k.items) c.args.index.now.last in
    walked c.args.joint.vars.now c.args.joint.before.now c.args.joint.path.now c.args.joint.kept.now known c.args.index.now.before c.requires (map (λ b. b.now) c.args.tuple.now) c.in_ok-key.key.items
    _ _ c.loop-at.at (λ i e. c.in_default.not-Some i e) c.in_ok-key.ensures c.loop-at.invariant
