use Rattle.std.proofs.Common.{length, map, sym, ◌∙◌}
use Rattle.pg_short.specs.Steps.{step_view, spot_view}
use Rattle.pg_short.specs.Found.{steps_in}
use Rattle.pg_short.specs.Tight.{numbers_in}
use Rattle.pg_short.proofs.FoundRounds.{on_ok}
use Rattle.pg_short.proofs.TightSteps.{at_place, step_at, one_more, not_least, not_visited}
use Rattle.pg_short.proofs.tight.push_tight.Goals as goal

pub returns-then-is_least : goal.returns-then-is_least
returns-then-is_least c =
    let s = c.args.search.now in
    let spots = map spot_view s.spots.keys in
    let all = c.requires.together in
    let step = step_view c.index.result.now in
    let here = step_at s spots all c.args.number c.index.result.now c.requires.number c.index.ensures in
    let at = at_place (steps_in s) s.order.items spots all c.in-Some.place step.spot c.in-Some.ensures.some in
    on_ok c.push_at.result _ _ (λ p. one_more (steps_in s) s.order.items spots all c.args.number step here (numbers_in c.args.lists.now.items) c.requires.before c.in-Some.place c.in-Some.ensures.some at.0 at.1
    (sym (c.is_least.ensures step at.0 here at.1) ∙ c.if-is_least.true) (numbers_in c.push_at.new.lists.items) p) c.push_at.ensures

pub returns-else-is_least : goal.returns-else-is_least
returns-else-is_least c =
    let s = c.args.search.now in
    let spots = map spot_view s.spots.keys in
    let all = c.requires.together in
    let step = step_view c.index.result.now in
    let here = step_at s spots all c.args.number c.index.result.now c.requires.number c.index.ensures in
    let at = at_place (steps_in s) s.order.items spots all c.in-Some.place step.spot c.in-Some.ensures.some in
    not_least (steps_in s) s.order.items spots all c.args.number step here (numbers_in c.args.lists.now.items) c.requires.before c.in-Some.place c.in-Some.ensures.some at.0 at.1
    (sym (c.is_least.ensures step at.0 here at.1) ∙ c.if-is_least.false)

pub returns-in-None : goal.returns-in-None
returns-in-None c =
    let s = c.args.search.now in
    let spots = map spot_view s.spots.keys in
    let all = c.requires.together in
    let step = step_view c.index.result.now in
    let here = step_at s spots all c.args.number c.index.result.now c.requires.number c.index.ensures in
    not_visited (steps_in s) s.order.items spots all c.args.number step here (numbers_in c.args.lists.now.items) c.requires.before (c.in-None.ensures.none)
