use Rattle.std.proofs.Common.{◌≡◌, ◌<◌, map, length, subst, arith}
use Rattle.pg_value.specs.declared.shape.ElemId.{ElemId}
use Rattle.pg_auto.specs.Autos.{stage_view}
use Rattle.pg_auto.specs.Successors.{next_states}
use Rattle.pg_search.specs.Numbers.{state_of}
use Rattle.pg_search.specs.Searches.{IsVisiting, PutStates, task_at}
use Rattle.pg_search.proofs.LinkedLists.{get_within}
use Rattle.pg_search.proofs.Searching.{IsVisited, fine_of, visit_on}
use Rattle.pg_search.proofs.search.visit_all.Goals as goal

visited : (g : _) (c : goal.In_ok-visit_at g) → IsVisited (task_at (g.V.View.shapes c.args.view.now) c.args.auto.now.graph.now (g.V.View.tables c.args.view.now) (map stage_view c.args.auto.now.stages) c.args.mode c.args.numbers.now.start) c.states.numbers c.states.states c.visit_at.new.numbers c.visit_at.new.states c.states.at
visited g c =
    let t = task_at (g.V.View.shapes c.args.view.now) c.args.auto.now.graph.now (g.V.View.tables c.args.view.now) (map stage_view c.args.auto.now.stages) c.args.mode in
    let v = c.states.invariant.visiting in
    let within : c.states.at < length c.states.states = let l = c.states-test.true in let e = c.len.ensures in omega arith in
    let here = get_within c.states.states c.states.at within in
    visit_on c.steps_on.ensures c.ranks_fall.ensures c.weights_fall.ensures (t c.args.numbers.now.start) c.requires.sound c.requires.bounded c.states.numbers c.visit_at.new.numbers c.states.states c.visit_at.new.states c.states.at here.0 here.1 within v
    (subst (λ (s : ElemId). PutStates c.states.numbers c.visit_at.new.numbers c.states.states c.visit_at.new.states (next_states (t s) (state_of c.states.numbers here.0))) v.start (c.in_ok-visit_at.ensures here.0 here.1))

pub visit_at-requires-clause-fine : goal.visit_at-requires-clause-fine
visit_at-requires-clause-fine g c = λ κs live a h.
    let t = task_at (g.V.View.shapes c.args.view.now) c.args.auto.now.graph.now (g.V.View.tables c.args.view.now) (map stage_view c.args.auto.now.stages) c.args.mode c.args.numbers.now.start in
    fine_of c.tests_tell.ensures t c.states.numbers c.states.states c.states.at c.states.at a c.states.invariant.visiting h

pub states-smaller : goal.states-smaller
states-smaller g c = (visited g c).fewer

pub states-preserved : goal.states-preserved
states-preserved g c = let v = visited g c in record { within = v.within; visiting = v.visiting }

pub returns : goal.returns
returns g c = let e = c.len.ensures in let l = c.states-test.false in let w = c.states.invariant.within in
    let same : c.states.at ≡ length c.states.states = omega arith in
    subst (λ i. IsVisiting (task_at (g.V.View.shapes c.args.view.now) c.args.auto.now.graph.now (g.V.View.tables c.args.view.now) (map stage_view c.args.auto.now.stages) c.args.mode c.args.numbers.now.start) c.states.numbers c.states.states i) same c.states.invariant.visiting
