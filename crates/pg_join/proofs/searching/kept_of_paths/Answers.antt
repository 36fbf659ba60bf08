use Rattle.std.proofs.Common.{sym, subst}
use Rattle.std.proofs.lemmas.Result.{IfOk-weaker}
use Rattle.pg_keyed.specs.Lists.{Each}
use Rattle.pg_join.specs.Selecting.{HasEnd, AreKept, AreKeptFrom}
use Rattle.pg_join.proofs.Selections.{have_ends, kept_from_start}
use Rattle.pg_join.proofs.searching.kept_of_paths.Goals as goal

pub selected-requires : goal.selected-requires
selected-requires g c = subst (Each HasEnd) (sym c.in_ok-found.ensures.listed) (have_ends c.in_ok-found.ensures.bindings)

pub returns : goal.returns
returns g c =
    let shapes = g.V.View.shapes c.args.view.now in
    let tables = g.V.View.tables c.args.view.now in
    let f = c.in_ok-found.ensures in
    IfOk-weaker c.selected.result (AreKept c.args.path.now.selector c.in_ok-found.found) (AreKeptFrom shapes tables c.args.path.now c.args.start.now)
    (λ kept k. kept_from_start shapes tables c.args.path.now c.args.start.now c.in_ok-found.found kept f.bindings c.binding_by_path.ensures f.listed f.are.exactly f.are.once k) c.selected.ensures
