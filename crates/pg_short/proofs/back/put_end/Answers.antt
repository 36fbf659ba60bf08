use Rattle.std.proofs.Common.{rules, ◌≤◌, ◌<◌, ℕ, length, map, arith, ap, sym, ◌∙◌}
use Rattle.std.proofs.lemmas.List.{length-map}
use Rattle.pg_auto.specs.Autos.{stage_view}
use Rattle.pg_short.specs.Steps.{Step, step_view, spot_view}
use Rattle.pg_short.specs.Found.{steps_in}
use Rattle.pg_short.specs.Rests.{IsEndPlace}
use Rattle.pg_short.proofs.FoundRounds.{on_ok}
use Rattle.pg_short.proofs.TightSteps.{visited_within, visited_at, same_least}
use Rattle.pg_short.proofs.Keeping.{ends_more, ends_pass}
use Rattle.pg_short.proofs.back.put_end.Goals as goal

pub index-requires-2 : goal.index-requires-2
index-requires-2 c =
    let s = c.args.search.now in
    let l : c.index.result.now < length s.found.items = visited_within s (map spot_view s.spots.keys) c.requires.together c.args.place c.index.result.now c.requires.place c.index.ensures in
    search rules

pub returns-then-stages-index : goal.returns-then-stages-index
returns-then-stages-index c =
    let s = c.args.search.now in
    let stages = map stage_view c.args.stages.now in
    let is = visited_at s (map spot_view s.spots.keys) c.requires.together c.args.place c.index.result.now c.index-2.result.now c.requires.place c.index.ensures c.index-2.ensures in
    let l : length stages ≤ c.index-2.result.now.spot.stage = let a = c.if-stages-index.true in let m = length-map c.args.stages.now stage_view in omega arith in
    on_ok c.put.result _ _ (λ put v. ends_more stages (steps_in s) s.order.items c.args.states.now c.put.new.self c.args.place (step_view c.index-2.result.now, is, l) put v) c.put.ensures.ok

pub returns-else-stages-index : goal.returns-else-stages-index
returns-else-stages-index c =
    let s = c.args.search.now in
    let stages = map stage_view c.args.stages.now in
    let is = visited_at s (map spot_view s.spots.keys) c.requires.together c.args.place c.index.result.now c.index-2.result.now c.requires.place c.index.ensures c.index-2.ensures in
    ends_pass stages (steps_in s) s.order.items c.args.states.now c.args.place (λ e.
    let same = ap (λ (x : Step). x.spot.stage) (same_least (steps_in s) s.order.items (map spot_view s.spots.keys) c.requires.together c.args.place e.0 (step_view c.index-2.result.now) e.1 is) in
    let a = c.if-stages-index.false in
    let l = e.2 in
    let m = length-map c.args.stages.now stage_view in
    omega arith)
