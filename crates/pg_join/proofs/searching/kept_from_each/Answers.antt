use Rattle.std.proofs.Common.{rules, of_calls, subst}
use Rattle.std.proofs.lemmas.Result.{IfOk-weaker}
use Rattle.std.specs.List.{AllZip}
use denote.Param.Send.{IsSync, given_sync, sendable}
use Rattle.std.proofs.Crossing.{crosses}
use Rattle.std.proofs.option.Option.TheSendSync as option
use Rattle.pg_value.proofs.list.List.TheSendSync as list
use Rattle.pg_value.proofs.shape.GraphShape.TheSendSync as graph
use Rattle.pg_ast.proofs.pattern.Arrow.TheSendSync as arrow
use Rattle.pg_auto.proofs.auto.Variable.TheSendSync as variable
use Rattle.pg_join.specs.Selecting.{AreKeptFrom}
use Rattle.pg_join.proofs.Crossing.{expr_row, filler_row, path_row, path_field}
use Rattle.pg_join.proofs.Jobs.{each_same, zip_weaker}
use Rattle.pg_join.proofs.searching.kept_from_each.Goals as goal

pub per_start-requires-sync-J : goal.per_start-requires-sync-J
per_start-requires-sync-J g c κs within = let v = c.type_bounds.sync-V in let w : IsSync g.row.V = given_sync _ g.row.V v in
    let a = path_row in let b = path_field in let e = expr_row in let f = filler_row in
    search (sendable, crosses, option.the_sync, option.the_field_sync, list.the_sync, graph.the_sync, graph.the_field_sync, arrow.the_sync, arrow.the_field_sync, variable.the_sync, variable.the_field_sync) depth 60 fits 5000

pub per_start-requires-clause-accepted : goal.per_start-requires-clause-accepted
per_start-requires-clause-accepted g c κs within = each_same _ _ (search (rules, of_calls) parts 8)

pub returns : goal.returns
returns g c =
    let shapes = g.V.View.shapes c.args.view.now in
    let tables = g.V.View.tables c.args.view.now in
    let K = AreKeptFrom shapes tables c.args.path.now in
    IfOk-weaker c.per_start.result _ (AllZip K c.args.starts.now)
    (λ ks z. zip_weaker _ K (λ s k p. subst (λ x. K x k) p.shows (search of_calls)) c.args.starts.now ks z) c.per_start.ensures
