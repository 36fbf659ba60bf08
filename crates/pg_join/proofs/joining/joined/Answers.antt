use Rattle.std.proofs.Common.{◌<◌, subst, refl}
use Rattle.pg_join.specs.Joining.{AreOf}
use Rattle.pg_join.proofs.Steps.{zip_length, joined_on, joined_whole}
use Rattle.pg_join.proofs.joining.joined.Goals as goal

pub bounds-kept-at : goal.bounds-kept-at
bounds-kept-at c = subst (λ n. c.loop-at.at < n) (zip_length AreOf c.args.paths.now c.args.kept.now c.requires) c.loop-at-test.true

pub loop-at-preserved : goal.loop-at-preserved
loop-at-preserved c =
    let l = subst (λ n. c.loop-at.at < n) (zip_length AreOf c.args.paths.now c.args.kept.now c.requires) c.loop-at-test.true in
    joined_on _ c.args.paths.now c.args.kept.now c.loop-at.at c.index-paths-at.result c.index-kept-at.result c.loop-at.tuples.items c.as_slice-in-loop-at.result.now c.front.result.now
    c.index-paths-at.result c.as_slice.result.now _ c.requires c.loop-at-test.true c.index-paths-at.is l c.index-kept-at.is
    c.loop-at.invariant c.in_ok-tuples-2.ensures c.front.ensures refl c.as_slice.ensures c.as_slice-in-loop-at.ensures.value

pub returns : goal.returns
returns c = joined_whole c.args.paths.now c.args.kept.now c.loop-at.at _ c.requires c.loop-at-test.false c.loop-at.invariant
