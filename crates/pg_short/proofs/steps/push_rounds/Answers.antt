use Rattle.std.proofs.Common.{◌++◌, List, map, ap, ◌∙◌}
use Rattle.pg_auto.specs.Stages.{Stage}
use Rattle.pg_auto.specs.Autos.{stage_view}
use Rattle.pg_short.specs.Rounds.{all_hops}
use Rattle.pg_short.specs.Steps.{Step, step_view, steps_in}
use Rattle.pg_short.proofs.FoundRounds.{on_ok}
use Rattle.pg_short.proofs.FoundSteps.{steps_flat}
use Rattle.pg_short.proofs.steps.push_rounds.Goals as goal

pub returns-clause-made : goal.returns-clause-made
returns-clause-made g c =
    let s = step_view c.args.step.now in
    let stage = stage_view c.args.stage.now in
    let old = map step_view c.args.found.now.items in
    let n = c.args.number in
    on_ok c.push_all_in.result _ _
    (λ h. h ∙ ap (λ (xs : List Step). old ++ xs)
    (steps_flat (map stage_view c.as_slice.result.now) n s stage c.in_ok-rounds.rounds.items
    ∙ ap (λ (ss : List Stage). steps_in ss n s stage (all_hops c.in_ok-rounds.rounds.items)) (ap (map stage_view) c.as_slice.ensures)
    ∙ ap (steps_in (map stage_view c.args.auto.now.stages) n s stage) c.in_ok-rounds.ensures.rounds))
    c.push_all_in.ensures
