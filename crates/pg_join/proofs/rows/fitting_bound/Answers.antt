use Rattle.std.proofs.Common.{◌≡◌, ◌≤◌, ◌^◌, length, map}
use Rattle.std.proofs.lemmas.Result.{IfOk-weaker}
use Rattle.pg_meaning.specs.declared.checked.PathBinding.{PathBinding}
use Rattle.pg_join.specs.Rows.{IsBoundTo, slots_of}
use Rattle.pg_join.proofs.Steps.{each_now}
use Rattle.pg_join.proofs.Variables.{bound_fits}
use Rattle.pg_join.proofs.rows.fitting_bound.Goals as goal

pub returns : goal.returns
returns g c =
    let shapes = g.V.View.shapes c.args.view.now in
    let tables = g.V.View.tables c.args.view.now in
    let q = c.args.query.now in
    let tuple = map (λ b. b.now) c.args.tuple.now in
    let groups = c.args.groups.now in
    let short = each_now (λ b. b.now) (λ (b : PathBinding). length b.edges ≤ 2 ^ 47) c.args.tuple.now (c.is_short.ensures c.if-not-is_short.false) in
    IfOk-weaker c.bound_of.result (λ bound. bound.vars ≡ slots_of q groups tuple) (IsBoundTo shapes tables q tuple)
    (λ bound v. bound_fits shapes tables q tuple groups bound c.tuples_fit.ensures.tuples c.tuples_fit.ensures.slots c.requires.sound c.well_made.ensures.tables.in_order c.requires.tuple short c.requires.groups v)
    c.bound_of.ensures
