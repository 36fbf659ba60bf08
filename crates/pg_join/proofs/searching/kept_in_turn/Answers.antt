use Rattle.std.proofs.Common.{sym, subst}
use Rattle.std.proofs.lemmas.Result.{IfOk-weaker}
use Rattle.std.specs.Prelude.{◌≡◌, flat_map}
use Rattle.std.specs.List.{AllZip}
use Rattle.pg_join.specs.Selecting.{AreKeptFrom, IsKept}
use Rattle.pg_join.proofs.Selections.{kept_together}
use Rattle.pg_join.proofs.searching.kept_in_turn.Goals as goal

pub returns : goal.returns
returns g c =
    let shapes = g.V.View.shapes c.args.view.now in
    let tables = g.V.View.tables c.args.view.now in
    let path = c.args.path.now in
    let starts = c.in_ok-starts.starts in
    let results = c.in_ok-results.results in
    let zip = subst (λ ss. AllZip (AreKeptFrom shapes tables path) ss results) c.as_slice.ensures c.in_ok-results.ensures in
    IfOk-weaker c.together.result (λ all. all ≡ flat_map (λ bs. bs) results) (IsKept shapes tables path)
    (λ all e. subst (IsKept shapes tables path) (sym e) (kept_together shapes tables path starts results c.in_ok-starts.ensures zip)) c.together.ensures
