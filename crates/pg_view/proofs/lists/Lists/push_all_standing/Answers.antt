use Rattle.std.proofs.Common.{◌++◌, ◌+◌, [], take, length, ap, sym, subst, ◌∙◌, append_assoc, arith}
use Rattle.std.specs.List.{cons_option}
use Rattle.pg_view.specs.Lists.{row_cost}
use Rattle.pg_view.specs.Standing.{standing, all_standing, BeginsWith}
use Rattle.pg_view.proofs.ViewLaws.{begins, one_more_standing, within_all, within_next}
use Rattle.pg_view.proofs.lists.Lists.push_all_standing.Goals as goal

pub edges-preserved : goal.edges-preserved
edges-preserved g c =
    let i = c.edges.invariant in
    let tables = c.args.self.now.tables in
    let t = c.args.tables.0 in
    let u = c.args.tables.1 in
    let e = c.index-edges-i.result in
    let o = c.index-others-i.result in
    let ok = c.in-Ok.ensures in
    let cost = ok.cost in
    let counts = ok.counts in (
      ok.ok ∙ ap (λ xs. xs ++ cons_option (standing tables t u e o) []) i.0
          ∙ append_assoc c.args.out.now (all_standing tables t u (take c.edges.i c.args.edges.now) (take c.edges.i c.args.others.now)) (cons_option (standing tables t u e o) [])
          ∙ ap (λ ys. c.args.out.now ++ ys) (sym (one_more_standing tables t u c.args.edges.now c.args.others.now c.edges.i e o c.edges-test.true c.requires c.index-edges-i.is c.index-others-i.is)),
      (let b = i.1 in omega (arith, b, counts)),
      within_next c.edges.i (1 + row_cost c.args.self.now u) c.args.steps.now c.edges.steps c.push_standing.new.steps i.2 cost,
    )

pub returns-in-Err-clause-front : goal.returns-in-Err-clause-front
returns-in-Err-clause-front g c = subst (BeginsWith c.args.out.now) (sym (c.in-Err.ensures.err ∙ c.edges.invariant.0)) (begins c.args.out.now _)

pub returns-in-Err-clause-cost : goal.returns-in-Err-clause-cost
returns-in-Err-clause-cost g c =
    let i = c.edges.invariant in within_all c.edges.i (length c.args.edges.now) (1 + row_cost c.args.self.now c.args.tables.1) c.args.steps.now c.edges.steps c.push_standing.new.steps c.edges-test.true i.2 c.in-Err.ensures.cost
