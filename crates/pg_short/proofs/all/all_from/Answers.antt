use Rattle.std.proofs.Common.{◌<◌, ℕ, List, length, map, refl, arith, ap, sym, ◌∙◌, subst}
use Rattle.std.proofs.lemmas.List.{length-map}
use Rattle.pg_auto.specs.Autos.{pattern, stage_view}
use Rattle.pg_auto.specs.Stages.{Stage}
use Rattle.pg_short.specs.Steps.{step_view}
use Rattle.pg_short.specs.Found.{task_over, steps_in}
use Rattle.pg_short.specs.Rests.{AreWhole}
use Rattle.pg_short.specs.declared.search.Search.{Search}
use Rattle.pg_short.proofs.Lists.{within}
use Rattle.pg_short.proofs.FoundRounds.{if_ok}
use Rattle.pg_short.proofs.Selected.{Laws}
use Rattle.pg_short.proofs.BackOver.{together, begun}
use Rattle.pg_short.proofs.LeastWalks.{walked_all}
use Rattle.pg_short.specs.Costs.{costs_of}
use Rattle.pg_short.proofs.Bounded.{read_within}
use Rattle.pg_short.proofs.all.all_from.Goals as goal

pub whole_walks-requires-clause-together : goal.whole_walks-requires-clause-together
whole_walks-requires-clause-together g c =
    together (task_over (g.V.View.shapes c.args.view.now) (g.V.View.tables c.args.view.now) (pattern c.args.auto.now) c.args.start.now) c.in_ok-search.search c.in_ok-search.ensures.searched

pub whole_walks-requires-clause-first : goal.whole_walks-requires-clause-first
whole_walks-requires-clause-first g c =
    let s = c.in_ok-search.search in
    let l = within (steps_in s) 0 _ c.in_ok-search.ensures.searched.made.first in
    let m = length-map s.found.items step_view in
    omega arith

pub whole_walks-requires-clause-begun : goal.whole_walks-requires-clause-begun
whole_walks-requires-clause-begun g c =
    begun c.tests_tell.ensures (task_over (g.V.View.shapes c.args.view.now) (g.V.View.tables c.args.view.now) (pattern c.args.auto.now) c.args.start.now) refl c.in_ok-search.search c.in_ok-search.ensures.searched

pub returns-clause-selected : goal.returns-clause-selected
returns-clause-selected g c =
    let laws : Laws = record { tells = c.tests_tell.ensures; stands = c.start_stands.ensures; on = c.steps_on.ensures; end = c.steps_end.ensures } in
    let shapes = g.V.View.shapes c.args.view.now in
    let tables = g.V.View.tables c.args.view.now in
    let path = c.args.path.now in
    let start = c.args.start.now in
    let s = c.in_ok-search.search in
    if_ok c.whole_walks.result _ _ (λ out given.
    walked_all laws c.walks_by_bindings.ensures shapes tables path start c.requires.sound c.requires.order c.requires.walk c.requires.vertex (pattern c.args.auto.now) c.requires.auto s c.in_ok-search.ensures.searched out
    (subst (λ (vars : List ℕ). AreWhole (map stage_view c.args.auto.now.stages) start vars (steps_in s) s.order.items out) c.as_slice-2.ensures
    (subst (λ stages. AreWhole (map stage_view stages) start c.as_slice-2.result.now (steps_in s) s.order.items out) c.as_slice.ensures given))) c.whole_walks.ensures.given

pub returns-in_err-search-clause-reads : goal.returns-in_err-search-clause-reads
returns-in_err-search-clause-reads g c = λ once.
    read_within c.hops_are_neighbours.ensures (costs_of (g.V.View.shapes c.args.view.now) (g.V.View.tables c.args.view.now) (g.V.View.row_cost c.args.view.now) (g.V.View.hop_cost c.args.view.now)) c.args.path.now c.args.start.now
    c.requires.sound.graph c.requires.order c.requires.vertex once (pattern c.args.auto.now) c.requires.auto c.args.steps.now c.search_from.new.steps c.in_err-search.ensures.reads

pub returns-clause-reads : goal.returns-clause-reads
returns-clause-reads g c = λ once.
    read_within c.hops_are_neighbours.ensures (costs_of (g.V.View.shapes c.args.view.now) (g.V.View.tables c.args.view.now) (g.V.View.row_cost c.args.view.now) (g.V.View.hop_cost c.args.view.now)) c.args.path.now c.args.start.now
    c.requires.sound.graph c.requires.order c.requires.vertex once (pattern c.args.auto.now) c.requires.auto c.args.steps.now c.search_from.new.steps c.in_ok-search.ensures.reads
