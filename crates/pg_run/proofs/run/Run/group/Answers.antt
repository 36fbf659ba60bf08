use Rattle.std.proofs.Common.{subst}
use Rattle.pg_run.specs.Runs.{RunOf}
use Rattle.pg_run.specs.Cuts.{AreEnds}
use Rattle.pg_run.proofs.EndsLaws.{group_edges, group_others, group_cost}
use Rattle.pg_run.proofs.run.Run.group.Goals as goal

pub returns-clause-edges : goal.returns-clause-edges
returns-clause-edges g c = group_edges c.args.self.now c.self.inside.ends c.args.edge c.args.dir c.args.vertex.now.values _ (subst (λ (r : RunOf). AreEnds r.shapes.edges r.writes c.self.inside.ends) c.self.view_is c.self.invariant.2) c.group.ensures.value

pub returns-clause-others : goal.returns-clause-others
returns-clause-others g c = group_others c.args.self.now c.self.inside.ends c.args.edge c.args.dir c.args.vertex.now.values _ (subst (λ (r : RunOf). AreEnds r.shapes.edges r.writes c.self.inside.ends) c.self.view_is c.self.invariant.2) c.group.ensures.value

pub returns-clause-cost : goal.returns-clause-cost
returns-clause-cost g c = group_cost c.args.self.now c.self.inside.ends c.args.edge c.args.dir c.args.steps.now c.group.new.steps (subst (λ (r : RunOf). AreEnds r.shapes.edges r.writes c.self.inside.ends) c.self.view_is c.self.invariant.2) c.group.ensures.cost
