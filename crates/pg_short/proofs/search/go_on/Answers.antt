use Rattle.std.proofs.Common.{rules, ◌<◌, ℕ, Bool, true, false, length, map, refl, arith, ap, ◌∙◌, subst}
use Rattle.std.proofs.lemmas.List.{length-map}
use Rattle.pg_auto.specs.Autos.{pattern}
use Rattle.pg_short.specs.Spots.{Spot}
use Rattle.pg_short.specs.Steps.{step_view, spot_view}
use Rattle.pg_short.specs.Visits.{IsAdded}
use Rattle.pg_short.specs.declared.search.Search.{Search}
use Rattle.pg_short.specs.Found.{IsPopped, task_over, steps_in}
use Rattle.pg_auto.specs.States.{Task}
use Rattle.pg_short.proofs.Lists.{within}
use Rattle.pg_short.proofs.FoundRounds.{on_ok}
use Rattle.pg_short.proofs.FoundSteps.{get_map}
use Rattle.pg_short.proofs.Queued.{get_some_or}
use Rattle.pg_short.proofs.ReadSteps.{none_read, one_read, one_more_read, on_err}
use Rattle.pg_short.proofs.Going.{go_pass, go_visit}
use Rattle.pg_short.proofs.search.go_on.Goals as goal

inside : (t : Task) (e : ℕ × ℕ) (s : Search) → IsPopped t e s → e.1 < length s.found.items
inside t e s p =
    let q = p.search.queued e p.out.own in
    let l = within (steps_in s) e.1 q.step q.there in
    let m = length-map s.found.items step_view in
    omega arith

pub index-requires : goal.index-requires
index-requires g c = let l : c.args.least.1 < length c.args.search.now.found.items = inside _ c.args.least c.args.search.now c.requires.popped in search rules

pub visit-requires-clause-number : goal.visit-requires-clause-number
visit-requires-clause-number g c = λ _ _. inside _ c.args.least c.args.search.now c.requires.popped

pub returns-then-branch-clause-searching : goal.returns-then-branch-clause-searching
returns-then-branch-clause-searching g c =
    let s = c.args.search.now in
    let t = task_over (g.V.View.shapes c.args.view.now) (g.V.View.tables c.args.view.now) (pattern c.args.auto.now) c.args.start.now in
    let here = get_map step_view s.found.items c.args.least.1 c.index.result.now (get_some_or s.found.items c.args.least.1 c.index.result.now (inside t c.args.least s c.requires.popped) c.index.ensures) in
    let r : Search = record { found = s.found; order = s.order; spots = c.put.new.spots; waiting = s.waiting } in
    let added : IsAdded (map spot_view s.spots.keys) (step_view c.index.result.now).spot (map spot_view c.put.new.spots.keys) true =
    subst (λ (x : Spot). IsAdded (map spot_view s.spots.keys) x (map spot_view c.put.new.spots.keys) true) c.in_ok-spot.ensures
    (subst (λ (b : Bool). IsAdded (map spot_view s.spots.keys) (spot_view c.in_ok-spot.spot) (map spot_view c.put.new.spots.keys) b) c.if-branch.true c.in_ok-put.ensures) in
    on_ok c.visit.result _ _ (λ d. go_visit c.tests_tell.ensures t refl c.args.least s (step_view c.index.result.now) here c.requires.popped r c.visit.new.search added refl refl refl d) c.visit.ensures.visit

pub returns-else-branch-clause-searching : goal.returns-else-branch-clause-searching
returns-else-branch-clause-searching g c =
    let s = c.args.search.now in
    let t = task_over (g.V.View.shapes c.args.view.now) (g.V.View.tables c.args.view.now) (pattern c.args.auto.now) c.args.start.now in
    let here = get_map step_view s.found.items c.args.least.1 c.index.result.now (get_some_or s.found.items c.args.least.1 c.index.result.now (inside t c.args.least s c.requires.popped) c.index.ensures) in
    let u : Search = record { found = s.found; order = s.order; spots = c.put.new.spots; waiting = s.waiting } in
    let added : IsAdded (map spot_view s.spots.keys) (step_view c.index.result.now).spot (map spot_view c.put.new.spots.keys) false =
    subst (λ (x : Spot). IsAdded (map spot_view s.spots.keys) x (map spot_view c.put.new.spots.keys) false) c.in_ok-spot.ensures
    (subst (λ (b : Bool). IsAdded (map spot_view s.spots.keys) (spot_view c.in_ok-spot.spot) (map spot_view c.put.new.spots.keys) b) c.if-branch.false c.in_ok-put.ensures) in
    go_pass c.tests_tell.ensures t refl c.args.least s (step_view c.index.result.now) here c.requires.popped (map spot_view c.put.new.spots.keys) u added refl refl refl refl

pub returns-in_err-spot-clause-reads : goal.returns-in_err-spot-clause-reads
returns-in_err-spot-clause-reads g c = on_err c.from_residual.result _ (none_read (g.V.View.hop_cost c.args.view.now) (task_over (g.V.View.shapes c.args.view.now) (g.V.View.tables c.args.view.now) (pattern c.args.auto.now) c.args.start.now) c.args.least c.args.search.now c.requires.popped c.args.steps.now)

pub returns-in_err-put-clause-reads : goal.returns-in_err-put-clause-reads
returns-in_err-put-clause-reads g c = on_err c.from_residual-in_err-put.result _ (none_read (g.V.View.hop_cost c.args.view.now) (task_over (g.V.View.shapes c.args.view.now) (g.V.View.tables c.args.view.now) (pattern c.args.auto.now) c.args.start.now) c.args.least c.args.search.now c.requires.popped c.args.steps.now)

pub returns-then-branch-clause-cost : goal.returns-then-branch-clause-cost
returns-then-branch-clause-cost g c =
    let s = c.args.search.now in
    let t = task_over (g.V.View.shapes c.args.view.now) (g.V.View.tables c.args.view.now) (pattern c.args.auto.now) c.args.start.now in
    let here = get_map step_view s.found.items c.args.least.1 c.index.result.now (get_some_or s.found.items c.args.least.1 c.index.result.now (inside t c.args.least s c.requires.popped) c.index.ensures) in
    let added : IsAdded (map spot_view s.spots.keys) (step_view c.index.result.now).spot (map spot_view c.put.new.spots.keys) true =
    subst (λ (x : Spot). IsAdded (map spot_view s.spots.keys) x (map spot_view c.put.new.spots.keys) true) c.in_ok-spot.ensures
    (subst (λ (b : Bool). IsAdded (map spot_view s.spots.keys) (spot_view c.in_ok-spot.spot) (map spot_view c.put.new.spots.keys) b) c.if-branch.true c.in_ok-put.ensures) in
    on_ok c.visit.result _ _ (λ d. one_more_read (g.V.View.hop_cost c.args.view.now) t (map spot_view s.spots.keys) (map spot_view c.visit.new.search.spots.keys) (step_view c.index.result.now).spot c.args.steps.now c.visit.new.steps
    (ap (map spot_view) d.spots ∙ added.0) (c.visit.ensures.cost (step_view c.index.result.now) here)) c.visit.ensures.visit

pub returns-then-branch-clause-reads : goal.returns-then-branch-clause-reads
returns-then-branch-clause-reads g c =
    let s = c.args.search.now in
    let t = task_over (g.V.View.shapes c.args.view.now) (g.V.View.tables c.args.view.now) (pattern c.args.auto.now) c.args.start.now in
    let here = get_map step_view s.found.items c.args.least.1 c.index.result.now (get_some_or s.found.items c.args.least.1 c.index.result.now (inside t c.args.least s c.requires.popped) c.index.ensures) in
    let added : IsAdded (map spot_view s.spots.keys) (step_view c.index.result.now).spot (map spot_view c.put.new.spots.keys) true =
    subst (λ (x : Spot). IsAdded (map spot_view s.spots.keys) x (map spot_view c.put.new.spots.keys) true) c.in_ok-spot.ensures
    (subst (λ (b : Bool). IsAdded (map spot_view s.spots.keys) (spot_view c.in_ok-spot.spot) (map spot_view c.put.new.spots.keys) b) c.if-branch.true c.in_ok-put.ensures) in
    on_err c.visit.result _ (one_read (g.V.View.hop_cost c.args.view.now) t c.args.least s c.requires.popped (step_view c.index.result.now) here added.1 c.args.steps.now c.visit.new.steps (c.visit.ensures.cost (step_view c.index.result.now) here))
