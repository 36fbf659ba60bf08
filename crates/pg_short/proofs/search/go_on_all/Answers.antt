use Rattle.std.proofs.Common.{ℕ, List, map, subst}
use Rattle.pg_auto.specs.Autos.{pattern}
use Rattle.pg_short.specs.Searches.{IsSearch}
use Rattle.pg_short.specs.Found.{task_over, steps_in}
use Rattle.pg_short.specs.Steps.{spot_view}
use Rattle.pg_short.proofs.ReadSteps.{read_on, searching_read}
use Rattle.pg_short.proofs.search.go_on_all.Goals as goal

pub returns-in-None-clause-searched : goal.returns-in-None-clause-searched
returns-in-None-clause-searched g c =
    let s = c.loop-turn.search in
    let t = task_over (g.V.View.shapes c.args.view.now) (g.V.View.tables c.args.view.now) (pattern c.args.auto.now) c.args.start.now in
    record { search = subst (λ (q : List (ℕ × ℕ)). IsSearch t (steps_in s) s.order.items q) c.in-None.ensures.none c.loop-turn.invariant.searching.search; spots = c.loop-turn.invariant.searching.spots; made = c.loop-turn.invariant.searching.made }

pub returns-in_err-go_on-in-Some-clause-reads : goal.returns-in_err-go_on-in-Some-clause-reads
returns-in_err-go_on-in-Some-clause-reads g c =
    read_on (g.V.View.hop_cost c.args.view.now) (task_over (g.V.View.shapes c.args.view.now) (g.V.View.tables c.args.view.now) (pattern c.args.auto.now) c.args.start.now) (map spot_view c.args.search.now.spots.keys) (map spot_view c.loop-turn.search.spots.keys) c.args.steps.now c.loop-turn.steps c.go_on.new.steps c.loop-turn.invariant.cost c.in_err-go_on-in-Some.ensures.reads

pub returns-in-None-clause-reads : goal.returns-in-None-clause-reads
returns-in-None-clause-reads g c = searching_read (g.V.View.hop_cost c.args.view.now) (task_over (g.V.View.shapes c.args.view.now) (g.V.View.tables c.args.view.now) (pattern c.args.auto.now) c.args.start.now) c.loop-turn.search c.loop-turn.invariant.searching (map spot_view c.args.search.now.spots.keys) c.args.steps.now c.loop-turn.steps c.loop-turn.invariant.cost

pub returns-clause-reads : goal.returns-clause-reads
returns-clause-reads g c = searching_read (g.V.View.hop_cost c.args.view.now) (task_over (g.V.View.shapes c.args.view.now) (g.V.View.tables c.args.view.now) (pattern c.args.auto.now) c.args.start.now) c.loop-turn.search c.loop-turn.invariant.searching (map spot_view c.args.search.now.spots.keys) c.args.steps.now c.loop-turn.steps c.loop-turn.invariant.cost
