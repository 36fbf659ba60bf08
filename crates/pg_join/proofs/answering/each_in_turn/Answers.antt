use Rattle.std.proofs.Common.{[], ◌∷◌, ◌++◌, ◌+◌, take, sym, subst}
use Rattle.std.specs.List.{AllZip}
use Rattle.pg_join.specs.Selecting.{IsKept}
use Rattle.pg_join.proofs.Steps.{zip_next}
use Rattle.pg_join.proofs.answering.each_in_turn.Goals as goal

pub loop-path-preserved : goal.loop-path-preserved
loop-path-preserved g c =
    let P = IsKept (g.V.View.shapes c.args.view.now) (g.V.View.tables c.args.view.now) in
    let paths = c.as_slice-path-items.result.now in
    let e = c.as_slice-path-items.ensures in
    let i = c.loop-path.path-index in
    subst (λ ks. AllZip P (take (i + 1) c.args.query.now.paths) ks) (sym c.in_ok-push.ensures.ok)
    (subst (λ ps. AllZip P (take (i + 1) ps) (c.loop-path.all ++ c.in_ok-kept.kept ∷ [])) e
    (zip_next P paths c.loop-path.all i c.path-item.result c.in_ok-kept.kept c.loop-path-test.true c.path-item.is (subst (λ ps. AllZip P (take i ps) c.loop-path.all) (sym e) c.loop-path.invariant) c.in_ok-kept.ensures))
