use Rattle.std.proofs.Common.{◌<◌, length, map, arith, refl, ap, sym, ◌∙◌}
use Rattle.std.specs.Prelude.{slice_get}
use Rattle.std.proofs.lemmas.List.{length-map}
use Rattle.pg_auto.specs.Autos.{stage_view}
use Rattle.pg_short.specs.Steps.{Step, step_view, spot_view}
use Rattle.pg_short.specs.Found.{steps_in}
use Rattle.pg_short.specs.Walks.{round_of}
use Rattle.pg_short.specs.Rests.{Rest, IsBefore, joined, round_walk, left_of}
use Rattle.pg_short.specs.declared.search.Search.{Search}
use Rattle.pg_short.specs.declared.steps.Step.{Step as HeldStep}
use Rattle.pg_short.proofs.Lists.{one_get, within}
use Rattle.pg_short.proofs.FoundRounds.{on_ok}
use Rattle.pg_short.proofs.TightSteps.{at_place, step_at, visited_spot}
use Rattle.pg_short.proofs.Keeping.{put_step}
use Rattle.pg_short.proofs.back.put_step.Goals as goal

pub returns-in_ok-kept-in-Some : goal.returns-in_ok-kept-in-Some
returns-in_ok-kept-in-Some c =
    let s = c.args.search.now in
    let spots = map spot_view s.spots.keys in
    let all = c.requires.together in
    let stages = map stage_view c.args.stages.now in
    let n = c.args.numbers.now in
    let step = c.index-step.result.now in
    let before = c.index-before.result.now in
    let tight = c.requires.tight in
    let inside : c.args.number < length s.found.items = let l = within (steps_in s) c.args.number tight.step tight.there in let m = length-map s.found.items step_view in omega arith in
    let there = step_at s spots all c.args.number step inside c.index-step.ensures in
    let same = one_get (slice_get (steps_in s) c.args.number) tight.step (step_view step) tight.there there in
    let inner : step.before < length s.found.items = let g = tight.goes in let e = ap (λ (x : Step). x.before) same in omega arith in
    let from = step_at s spots all step.before before inner c.index-before.ensures in
    let at = at_place (steps_in s) s.order.items spots all c.in-Some.place (spot_view before.spot) c.in-Some.ensures.some in
    let w = left_of n c.args.rest in
    let rest : Rest = (c.in-Some.place, joined (round_walk (round_of stages (step_view before) (step_view step))) w) in
    let b : IsBefore stages (steps_in s) s.order.items c.args.number w rest = record { step = step_view step; there = there; before = step_view before; from = from; least = at.0; place = at.1; spot = at.2; walk = refl } in
    on_ok c.put.result _ _ (λ p. put_step stages (steps_in s) s.order.items n c.with_step.new.numbers c.args.states.now c.put.new.self c.in_ok-kept-in-Some.kept rest c.args.number w c.requires.kept c.in_ok-kept-in-Some.ensures p b) c.put.ensures.ok

pub returns-in-None : goal.returns-in-None
returns-in-None c =
    let s = c.args.search.now in
    let spots = map spot_view s.spots.keys in
    let all = c.requires.together in
    let step = c.index-step.result.now in
    let before = c.index-before.result.now in
    let tight = c.requires.tight in
    let inside : c.args.number < length s.found.items = let l = within (steps_in s) c.args.number tight.step tight.there in let m = length-map s.found.items step_view in omega arith in
    let there = step_at s spots all c.args.number step inside c.index-step.ensures in
    let same = one_get (slice_get (steps_in s) c.args.number) tight.step (step_view step) tight.there there in
    let goes : step.before < c.args.number = let g = tight.goes in let e = ap (λ (x : Step). x.before) same in omega arith in
    let inner : step.before < length s.found.items = omega arith in
    let from = step_at s spots all step.before before inner c.index-before.ensures in
    absurd (c.in-None.ensures.none (visited_spot s spots all step.before (step_view before) (all.back c.args.number (step_view step) there goes) from))
