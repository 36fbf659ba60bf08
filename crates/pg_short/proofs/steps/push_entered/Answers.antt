use Rattle.std.proofs.Common.{arith, sym, ◌∙◌}
use Rattle.pg_auto.specs.Autos.{stage_view}
use Rattle.pg_auto.specs.Counts.{may_enter}
use Rattle.pg_short.specs.Costs.{legs_cost}
use Rattle.pg_short.proofs.ReadSteps.{if_true}
use Rattle.pg_short.proofs.steps.push_entered.Goals as goal

pub returns-then-may_enter-clause-cost : goal.returns-then-may_enter-clause-cost
returns-then-may_enter-clause-cost g c =
    let a = c.push_rounds.ensures.cost in
    let b = if_true (may_enter (stage_view c.args.stage.now) c.args.step.now.spot.done)
    (legs_cost (g.V.View.hop_cost c.args.view.now) (g.V.View.shapes c.args.view.now) (g.V.View.tables c.args.view.now) c.args.auto.now.graph.now (stage_view c.args.stage.now).round.legs c.args.step.now.spot.at)
    (sym c.may_enter.ensures ∙ c.if-may_enter.true) in
    omega arith
