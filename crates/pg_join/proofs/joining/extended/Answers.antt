use Rattle.std.proofs.Common.{◌++◌, map, sym, ◌∙◌}
use Rattle.pg_join.specs.Joining.{shared, longer_by}
use Rattle.pg_join.proofs.Steps.{flat_next}
use Rattle.pg_join.proofs.joining.extended.Goals as goal

pub loop-tuple-preserved : goal.loop-tuple-preserved
loop-tuple-preserved c =
    let before = c.args.before.now in
    let path = c.args.path.now in
    let kept = c.args.kept.now in
    let vars = c.as_slice-vars.ensures ∙ c.in_ok-shared.ensures in
    c.in_ok-push_longer.ensures ∙ (λ j. c.loop-tuple.invariant j ++ longer_by (vars j) before path kept (map (λ b. b.now) (c.as_slice.ensures j)))
    ∙ sym (flat_next (longer_by (shared before path) before path kept) _ c.args.tuples.now c.loop-tuple.tuple-index c.tuple-item.result c.loop-tuple-test.true c.tuple-item.is)
