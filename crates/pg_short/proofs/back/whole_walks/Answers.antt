use Rattle.std.proofs.Common.{◌≡◌, ℕ, List, length, map, ap, sym, ◌∙◌, subst}
use Rattle.std.specs.Prelude.{flat_map}
use Rattle.std.proofs.lemmas.List.{length-map}
use Rattle.pg_value.specs.declared.shape.ElemId.{ElemId}
use Rattle.pg_auto.specs.Autos.{stage_view}
use Rattle.pg_search.specs.Numbers.{Numbers}
use Rattle.pg_short.specs.Steps.{step_view, spot_view}
use Rattle.pg_short.specs.Found.{steps_in}
use Rattle.pg_short.specs.Rests.{AreLed, AreWithin, whole_at, rest_of, rests_of}
use Rattle.pg_short.proofs.FoundRounds.{if_ok}
use Rattle.pg_short.proofs.TightSteps.{at_place, step_at}
use Rattle.pg_short.proofs.Keeping.{ends_led, ends_within, distinct_rests}
use Rattle.pg_short.proofs.back.whole_walks.Goals as goal

pub go_back_all-requires-clause-kept : goal.go_back_all-requires-clause-kept
go_back_all-requires-clause-kept c =
    let s = c.args.search.now in
    subst (λ (n : Numbers). AreWithin n c.in_ok-states.states) (sym c.in_ok-numbers.ensures) (ends_within (map stage_view c.args.stages.now) (steps_in s) s.order.items c.args.start.now c.in_ok-states.states c.in_ok-states.ensures)

pub go_back_all-requires-clause-led : goal.go_back_all-requires-clause-led
go_back_all-requires-clause-led c =
    let s = c.args.search.now in
    let stages = map stage_view c.args.stages.now in
    subst (λ (n : Numbers). AreLed stages (steps_in s) s.order.items (rests_of n c.in_ok-states.states) 0) (sym c.in_ok-numbers.ensures) (ends_led stages (steps_in s) s.order.items c.args.start.now c.in_ok-states.states c.in_ok-states.ensures)

pub returns-in-Some-clause-given : goal.returns-in-Some-clause-given
returns-in-Some-clause-given c =
    let s = c.args.search.now in
    let spots = map spot_view s.spots.keys in
    let all = c.requires.together in
    let stages = map stage_view c.args.stages.now in
    let n = c.go_back_all.new.numbers in
    let kept = c.go_back_all.new.states in
    let first = c.index.result.now in
    let at = at_place (steps_in s) s.order.items spots all c.in-Some.place (spot_view first.spot) c.in-Some.ensures.some in
    let start = c.in_ok-go_back_all.ensures.start ∙ ap (λ (x : Numbers). x.start) c.in_ok-numbers.ensures in
    if_ok c.whole.result _ _ (λ out g. record {
      rests = rests_of n kept;
      led = subst (AreLed stages (steps_in s) s.order.items (rests_of n kept)) (sym (length-map kept (rest_of n))) c.in_ok-go_back_all.ensures.led;
      distinct = distinct_rests n c.are_apart.ensures kept c.in_ok-go_back_all.ensures.kept c.are_distinct.ensures;
      place = c.in-Some.place;
      least = at.0;
      here = at.1;
      first = step_view first;
      begins = step_at s spots all 0 first c.requires.first c.index.ensures;
      spot = at.2;
      given = g ∙ ap (λ (x : ElemId). flat_map (whole_at x c.args.vars.now c.in-Some.place) (rests_of n kept)) start;
    }) c.whole.ensures.given

pub returns-clause-given : goal.returns-clause-given
returns-clause-given c =
    let s = c.args.search.now in
    let spots = map spot_view s.spots.keys in
    absurd (c.in-None.ensures.none (c.requires.begun (step_view c.index.result.now) (step_at s spots c.requires.together 0 c.index.result.now c.requires.first c.index.ensures)))
