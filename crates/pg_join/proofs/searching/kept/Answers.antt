use Rattle.std.proofs.Common.{sym, subst}
use Rattle.std.proofs.lemmas.Result.{IfOk-weaker}
use Rattle.std.specs.Prelude.{◌≡◌, flat_map}
use Rattle.pg_join.specs.Selecting.{IsKept}
use Rattle.pg_join.proofs.Selections.{kept_together}
use Rattle.pg_join.proofs.searching.kept.Goals as goal

pub returns : goal.returns
returns g c =
    let shapes = g.V.View.shapes c.args.view.now in
    let tables = g.V.View.tables c.args.view.now in
    let path = c.args.path.now in
    let starts = c.in_ok-starts.starts in
    let results = c.in_ok-results.results in
    IfOk-weaker c.together.result (λ all. all ≡ flat_map (λ bs. bs) results) (IsKept shapes tables path)
    (λ all e. subst (IsKept shapes tables path) (sym e) (kept_together shapes tables path starts results c.in_ok-starts.ensures c.in_ok-results.ensures)) c.together.ensures
