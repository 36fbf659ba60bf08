use Rattle.std.proofs.Common.{Some, None, ap, sym, ◌∙◌, arith}
use Rattle.pg_snap.specs.Costs.{runs_cost}
use Rattle.pg_snap.specs.Snapshots.{SnapOf, said_in}
use Rattle.pg_snap.proofs.RowLaws.{own_says, own_silent, own_cost}
use Rattle.pg_snap.proofs.snapshot.Snapshot.newest.Goals as goal

pub returns-in-Absent-clause-value : goal.returns-in-Absent-clause-value
returns-in-Absent-clause-value g c =
    own_silent c.args.self.now c.in-Some.own c.args.table c.args.key.now.values _ (sym (ap (λ (s : SnapOf). s.own) c.self.view_is) ∙ c.in-Some.is) c.in-Absent.ensures.value
    (c.newest.ensures.value ∙ ap (said_in c.args.table c.args.key.now.values) (c.as_slice-runs.ensures.value ∙ ap (λ (s : SnapOf). s.runs) c.self.view_is))

pub returns-in-Absent-clause-cost : goal.returns-in-Absent-clause-cost
returns-in-Absent-clause-cost g c =
    let a = own_cost c.args.self.now c.in-Some.own c.args.table (sym (ap (λ (s : SnapOf). s.own) c.self.view_is) ∙ c.in-Some.is) in
    let b = c.in-Absent.ensures.cost in
    let d = c.newest.ensures.cost in
    let e = ap (runs_cost c.args.table) (c.as_slice-runs.ensures.value ∙ ap (λ (s : SnapOf). s.runs) c.self.view_is) in
    omega (arith, a, b, d, e)

pub returns-in-Gone-clause-value : goal.returns-in-Gone-clause-value
returns-in-Gone-clause-value g c = own_says c.args.self.now c.in-Some.own c.args.table c.args.key.now.values None (sym (ap (λ (s : SnapOf). s.own) c.self.view_is) ∙ c.in-Some.is) c.in-Gone.ensures.value

pub returns-in-Gone-clause-cost : goal.returns-in-Gone-clause-cost
returns-in-Gone-clause-cost g c =
    let a = own_cost c.args.self.now c.in-Some.own c.args.table (sym (ap (λ (s : SnapOf). s.own) c.self.view_is) ∙ c.in-Some.is) in
    let b = c.in-Gone.ensures.cost in
    omega (arith, a, b)

pub returns-in-Row-clause-value : goal.returns-in-Row-clause-value
returns-in-Row-clause-value g c = own_says c.args.self.now c.in-Some.own c.args.table c.args.key.now.values (Some c.in-Row.row.now) (sym (ap (λ (s : SnapOf). s.own) c.self.view_is) ∙ c.in-Some.is) c.in-Row.ensures.value

pub returns-in-Row-clause-cost : goal.returns-in-Row-clause-cost
returns-in-Row-clause-cost g c =
    let a = own_cost c.args.self.now c.in-Some.own c.args.table (sym (ap (λ (s : SnapOf). s.own) c.self.view_is) ∙ c.in-Some.is) in
    let b = c.in-Row.ensures.cost in
    omega (arith, a, b)
