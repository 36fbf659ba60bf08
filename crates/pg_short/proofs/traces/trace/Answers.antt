use Rattle.std.proofs.Common.{◌<◌, length, map, arith, ap, sym, ◌∙◌, subst}
use Rattle.pg_auto.specs.Autos.{stage_view}
use Rattle.pg_short.specs.Steps.{step_view}
use Rattle.pg_short.specs.Walks.{IsTraced, round_view, rounds_in}
use Rattle.pg_short.proofs.FoundSteps.{get_map}
use Rattle.pg_short.proofs.Queued.{get_some_or}
use Rattle.pg_short.proofs.Tracing.{Leads, leads_on, leads_more, leads_all, map_reverse}
use Rattle.pg_short.proofs.traces.trace.Goals as goal

pub steps-init : goal.steps-init
steps-init c =
    let stages = map stage_view c.args.stages.now in
    let found = map step_view c.args.found.now in
    record {
      within = c.requires;
      here = get_some_or c.args.found.now c.args.number c.index-found-number.result c.requires c.index-found-number.is;
      back = subst (Leads stages found c.args.number c.args.number) (sym (ap rounds_in c.new-rounds.ensures.items)) (leads_on stages found c.args.number);
    }

pub steps-preserved : goal.steps-preserved
steps-preserved c =
    let stages = map stage_view c.args.stages.now in
    let found = map step_view c.args.found.now in
    let step = c.steps.step.now in
    let before = c.index-found-at.result in
    let l : step.before < length c.args.found.now = (let w = c.steps.invariant.within in let t = c.steps-test.true in omega arith) in
    let there = get_some_or c.args.found.now step.before before l c.index-found-at.is in
    record {
      within = l;
      here = there;
      back = subst (Leads stages found c.args.number step.before) (sym c.in_ok-push_round.ensures)
          (leads_more stages found c.args.number c.steps.at (step_view step) (step_view before) (rounds_in c.steps.rounds.items)
          (get_map step_view c.args.found.now c.steps.at step c.steps.invariant.here) c.steps-test.true (get_map step_view c.args.found.now step.before before there) c.steps.invariant.back);
    }

pub returns : goal.returns
returns c =
    let stages = map stage_view c.args.stages.now in
    let found = map step_view c.args.found.now in
    let step = c.steps.step.now in
    subst (IsTraced stages found c.args.number) (sym (ap rounds_in c.reverse.ensures.items ∙ map_reverse round_view c.steps.rounds.items))
    (leads_all stages found c.args.number c.steps.at (step_view step) (rounds_in c.steps.rounds.items) (get_map step_view c.args.found.now c.steps.at step c.steps.invariant.here) c.steps-test.false c.steps.invariant.back)
