use Rattle.std.proofs.Common.{◌+◌, length, sym, subst, ◌∙◌, arith}
use Rattle.pg_snap.specs.Costs.{find_cost}
use Rattle.pg_snap.specs.Snapshots.{tables_of}
use Rattle.pg_view.specs.Standing.{BeginsWith}
use Rattle.pg_snap.proofs.StepLaws.{standing_more, begins, within_all, within_next}
use Rattle.pg_snap.proofs.snapshot.Snapshot.push_all_standing.Goals as goal

pub edges-preserved : goal.edges-preserved
edges-preserved g c =
    let i = c.edges.invariant in
    let ok = c.in-Ok.ensures in
    record {
      out = standing_more (tables_of c.args.self.now) c.args.tables.0 c.args.tables.1 c.args.out.now c.edges.out c.push_standing.new.out c.args.all.now c.edges.reached-index c.reached-item.result c.edges-test.true c.reached-item.is i.out ok.ok;
      counts = (let a = i.counts in let b = ok.counts in omega (arith, a, b));
      cost = within_next c.edges.reached-index (1 + find_cost c.args.self.now c.args.tables.1) c.args.steps.now c.edges.steps c.push_standing.new.steps i.cost ok.cost;
    }

pub returns-in-Err-clause-front : goal.returns-in-Err-clause-front
returns-in-Err-clause-front g c = subst (BeginsWith c.args.out.now) (sym (c.in-Err.ensures.err ∙ c.edges.invariant.out)) (begins c.args.out.now _)

pub returns-in-Err-clause-counts : goal.returns-in-Err-clause-counts
returns-in-Err-clause-counts g c = let a = c.edges.invariant.counts in let b = c.in-Err.ensures.counts in omega (arith, a, b)

pub returns-in-Err-clause-cost : goal.returns-in-Err-clause-cost
returns-in-Err-clause-cost g c =
    within_all c.edges.reached-index (length c.args.all.now) (1 + find_cost c.args.self.now c.args.tables.1) c.args.steps.now c.edges.steps c.push_standing.new.steps c.edges-test.true c.edges.invariant.cost c.in-Err.ensures.cost
