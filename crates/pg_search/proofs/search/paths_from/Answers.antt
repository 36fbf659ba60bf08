use Rattle.std.proofs.Common.{◌≡◌, List, map, length, ap, sym, subst, ◌∙◌}
use Rattle.std.proofs.lemmas.List.{length-map}
use Rattle.std.specs.Prelude.{flat_map}
use Rattle.pg_auto.specs.Autos.{stage_view}
use Rattle.pg_auto.specs.Stages.{Pattern}
use Rattle.pg_auto.specs.States.{Task}
use Rattle.pg_search.specs.declared.states.Kept.{Kept}
use Rattle.pg_search.specs.Found.{ArePaths, found_at}
use Rattle.pg_search.specs.Numbers.{Numbers, first_numbers}
use Rattle.pg_search.specs.Searches.{IsVisiting, task_at}
use Rattle.pg_search.proofs.FoundBindings.{Laws}
use Rattle.pg_search.proofs.ReadHops.{if_ok}
use Rattle.pg_search.proofs.Searching.{begins_at, found_paths}
use Rattle.pg_search.proofs.search.paths_from.Goals as goal

pub visit_all-requires-clause-visiting : goal.visit_all-requires-clause-visiting
visit_all-requires-clause-visiting g c = λ κs live.
    let t = task_at (g.V.View.shapes c.args.view.now) c.args.auto.now.graph.now (g.V.View.tables c.args.view.now) (map stage_view c.args.auto.now.stages) c.args.path.now.mode in
    subst (λ (n : Numbers). IsVisiting (t n.start) n c.in_ok-states.states 0) (sym c.in_ok-numbers.ensures)
    (subst (λ (ss : List Kept). IsVisiting (t c.args.start.now) (first_numbers c.args.start.now) ss 0) (sym c.in_ok-states.ensures) (begins_at c.first_is_valid.ensures (t c.args.start.now)))

pub returns : goal.returns
returns g c =
    let shapes = g.V.View.shapes c.args.view.now in
    let tables = g.V.View.tables c.args.view.now in
    let path = c.args.path.now in
    let graph = ap (λ (p : Pattern). p.graph) c.requires.auto in
    let stages = ap (λ (p : Pattern). p.stages) c.requires.auto in
    let start = ap (λ (n : Numbers). n.start) c.in_ok-numbers.ensures in
    let laws : Laws = record { stands = c.start_stands.ensures; on = c.steps_on.ensures; end = c.steps_end.ensures; bounded = c.sound_are_bounded.ensures; falls = c.ranks_fall.ensures; apart = c.ends_by_bindings.ensures } in
    let visiting = subst (λ (t : Task). IsVisiting t c.visit_all.new.numbers c.visit_all.new.states (length c.visit_all.new.states)) (λ i. task_at shapes (graph i) tables (stages i) path.mode (start i)) c.in_ok-visit_all.ensures in
    if_ok c.found.result (λ found. found ≡ flat_map (found_at c.visit_all.new.numbers c.len.result c.as_slice.result.now) c.visit_all.new.states) (ArePaths shapes tables path c.args.start.now)
    (λ found e. found_paths laws shapes tables path c.args.start.now c.requires.sound c.requires.order c.requires.ends c.requires.vertex c.visit_all.new.numbers c.visit_all.new.states visiting c.len.result
    (c.len.ensures ∙ sym (length-map c.args.auto.now.stages stage_view) ∙ ap length stages) found (e ∙ ap (λ vars. flat_map (found_at c.visit_all.new.numbers c.len.result vars) c.visit_all.new.states) c.as_slice.ensures))
    c.found.ensures
