use Rattle.std.proofs.Common.{◌<◌, ℕ, List, length, map, Contains, sym, ◌∙◌, subst}
use Rattle.std.specs.Prelude.{flat_map}
use Rattle.pg_ast.specs.declared.pattern.Selector.TheVariants.{AnyShortest}
use Rattle.pg_auto.specs.Autos.{pattern, stage_view}
use Rattle.pg_short.specs.Steps.{step_view}
use Rattle.pg_short.specs.Found.{task_over}
use Rattle.pg_short.specs.Selections.{AreSelected}
use Rattle.pg_short.specs.Walks.{end_to}
use Rattle.pg_short.specs.declared.steps.Step.{Step}
use Rattle.pg_short.proofs.FoundRounds.{if_ok}
use Rattle.pg_short.proofs.Selected.{Laws}
use Rattle.pg_short.specs.Costs.{costs_of}
use Rattle.pg_short.proofs.Bounded.{read_within}
use Rattle.pg_short.proofs.Ended.{numbers, walked_shortest}
use Rattle.pg_short.proofs.any.shortest_from.Goals as goal

pub ends-requires-clause-numbers : goal.ends-requires-clause-numbers
ends-requires-clause-numbers g c =
    let t = task_over (g.V.View.shapes c.args.view.now) (g.V.View.tables c.args.view.now) (pattern c.args.auto.now) c.args.start.now in
    λ k here. subst (λ (xs : List Step). k < length xs) (sym c.as_slice-3.ensures.value) (numbers t c.in_ok-search.search c.in_ok-search.ensures.searched k (subst (λ (ks : List ℕ). Contains ks k) c.as_slice-4.ensures.value here))

pub returns-clause-selected : goal.returns-clause-selected
returns-clause-selected g c =
    let laws : Laws = record { tells = c.tests_tell.ensures; stands = c.start_stands.ensures; on = c.steps_on.ensures; end = c.steps_end.ensures } in
    let shapes = g.V.View.shapes c.args.view.now in
    let tables = g.V.View.tables c.args.view.now in
    let path = c.args.path.now in
    let start = c.args.start.now in
    let selected = walked_shortest laws shapes tables path start c.requires.sound c.requires.order c.requires.walk c.requires.vertex (pattern c.args.auto.now) c.requires.auto c.in_ok-search.search c.in_ok-search.ensures.searched in
    if_ok c.ends.result _ _ (λ out given. subst (AreSelected AnyShortest shapes tables path start)
    (sym (given ∙ (λ i. flat_map (end_to (map stage_view (c.as_slice.ensures i)) start (c.as_slice-2.ensures i) (map step_view (c.as_slice-3.ensures.value i))) (c.as_slice-4.ensures.value i)))) selected) c.ends.ensures.given

pub returns-in_err-search-clause-reads : goal.returns-in_err-search-clause-reads
returns-in_err-search-clause-reads g c = λ once.
    read_within c.hops_are_neighbours.ensures (costs_of (g.V.View.shapes c.args.view.now) (g.V.View.tables c.args.view.now) (g.V.View.row_cost c.args.view.now) (g.V.View.hop_cost c.args.view.now)) c.args.path.now c.args.start.now
    c.requires.sound.graph c.requires.order c.requires.vertex once (pattern c.args.auto.now) c.requires.auto c.args.steps.now c.search_from.new.steps c.in_err-search.ensures.reads

pub returns-clause-reads : goal.returns-clause-reads
returns-clause-reads g c = λ once.
    read_within c.hops_are_neighbours.ensures (costs_of (g.V.View.shapes c.args.view.now) (g.V.View.tables c.args.view.now) (g.V.View.row_cost c.args.view.now) (g.V.View.hop_cost c.args.view.now)) c.args.path.now c.args.start.now
    c.requires.sound.graph c.requires.order c.requires.vertex once (pattern c.args.auto.now) c.requires.auto c.args.steps.now c.search_from.new.steps c.in_ok-search.ensures.reads
