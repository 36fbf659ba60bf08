use Rattle.std.proofs.Common.{arith, map, ap, sym, ◌∙◌}
use Rattle.pg_auto.specs.Autos.{stage_view}
use Rattle.pg_search.specs.Checked.{IsCheckedStage}
use Rattle.pg_short.specs.Steps.{step_view, spot_view}
use Rattle.pg_short.proofs.FoundRounds.{if_ok}
use Rattle.pg_short.proofs.FoundSteps.{each_at, get_map, none_map, next_some, next_none}
use Rattle.pg_short.proofs.ReadSteps.{spot_some}
use Rattle.pg_short.proofs.steps.steps_from.Goals as goal

pub steps_in-requires-after_bounds : goal.steps_in-requires-after_bounds
steps_in-requires-after_bounds g c =
    λ _ _. each_at (IsCheckedStage (g.V.View.shapes c.args.view.now)) (map stage_view c.args.auto.now.stages) c.args.step.now.spot.stage (stage_view c.in-Some.stage.now) c.requires
    (get_map stage_view c.args.auto.now.stages c.args.step.now.spot.stage c.in-Some.stage.now (sym c.in-Some.ensures.value))

pub returns-in-Some-clause-made : goal.returns-in-Some-clause-made
returns-in-Some-clause-made g c = if_ok c.steps_in.result _ _
    (λ found h. h ∙ sym (next_some (g.V.View.shapes c.args.view.now) (g.V.View.tables c.args.view.now) c.args.auto.now.graph.now (map stage_view c.args.auto.now.stages) c.args.number (step_view c.args.step.now) (stage_view c.in-Some.stage.now)
    (get_map stage_view c.args.auto.now.stages c.args.step.now.spot.stage c.in-Some.stage.now (sym c.in-Some.ensures.value))))
    c.steps_in.ensures.made

pub returns-in-None-clause-made : goal.returns-in-None-clause-made
returns-in-None-clause-made g c = ap (map step_view) c.new.ensures.items
    ∙ sym (next_none (g.V.View.shapes c.args.view.now) (g.V.View.tables c.args.view.now) c.args.auto.now.graph.now (map stage_view c.args.auto.now.stages) c.args.number (step_view c.args.step.now)
    (none_map stage_view c.args.auto.now.stages c.args.step.now.spot.stage (sym c.in-None.ensures.value)))

pub returns-in-Some-clause-cost : goal.returns-in-Some-clause-cost
returns-in-Some-clause-cost g c =
    let a = c.steps_in.ensures.cost in
    let b = spot_some (g.V.View.hop_cost c.args.view.now) (g.V.View.shapes c.args.view.now) (g.V.View.tables c.args.view.now) c.args.auto.now.graph.now (map stage_view c.args.auto.now.stages) (spot_view c.args.step.now.spot) (stage_view c.in-Some.stage.now)
    (get_map stage_view c.args.auto.now.stages c.args.step.now.spot.stage c.in-Some.stage.now (sym c.in-Some.ensures.value)) in
    omega arith
