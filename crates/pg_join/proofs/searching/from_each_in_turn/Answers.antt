use Rattle.std.proofs.Common.{◌+◌, take, sym, subst}
use Rattle.std.specs.List.{AllZip}
use Rattle.pg_join.specs.Selecting.{AreKeptFrom}
use Rattle.pg_join.proofs.Steps.{zip_next}
use Rattle.pg_join.proofs.searching.from_each_in_turn.Goals as goal

pub loop-start-preserved : goal.loop-start-preserved
loop-start-preserved g c =
    let P = AreKeptFrom (g.V.View.shapes c.args.view.now) (g.V.View.tables c.args.view.now) c.args.path.now in
    let starts = c.args.starts.now in
    let i = c.loop-start.start-index in
    subst (λ rs. AllZip P (take (i + 1) starts) rs) (sym c.in_ok-push.ensures.ok)
    (zip_next P starts c.loop-start.results i c.start-item.result c.in_ok-kept.kept c.loop-start-test.true c.start-item.is c.loop-start.invariant c.in_ok-kept.ensures)
