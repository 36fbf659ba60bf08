use Rattle.std.proofs.Common.{true, [], ◌∷◌, List, map, ap, sym, subst, ◌∙◌}
use Rattle.std.specs.Prelude.{flat_map}
use Rattle.pg_value.specs.declared.shape.GraphShape.{GraphShape}
use Rattle.pg_meaning.specs.Walks.{Hop, last_vertex, graph_of}
use Rattle.pg_auto.specs.Autos.{leg_view, stage_view}
use Rattle.pg_auto.specs.Stages.{Stage}
use Rattle.pg_auto.specs.States.{State}
use Rattle.pg_auto.specs.Tests.{node_admits}
use Rattle.pg_auto.specs.Successors as successors
use Rattle.pg_search.specs.Numbers.{hops_at, state_of}
use Rattle.pg_search.specs.Rounds.{along, AreAlong}
use Rattle.pg_search.specs.Searches.{AreRounds, PutStates, entered_if, task_at}
use Rattle.pg_search.proofs.Naming.{on_ok}
use Rattle.pg_search.proofs.Numbers.{state_stays}
use Rattle.pg_search.proofs.PuttingStates.{put_on, put_none, all_within}
use Rattle.pg_search.proofs.FromRounds.{from_own, rounds_long, are_rounds, some_rounds, entered_are, behind}
use Rattle.pg_search.proofs.visit.push_entered.Goals as goal

pub push_rounds-requires-clause-walks : goal.push_rounds-requires-clause-walks
push_rounds-requires-clause-walks g c = λ κs live.
    let n = c.args.numbers.now in
    let a = c.args.state.now in
    let stage = stage_view c.args.stage.now in
    let legs = map leg_view c.args.stage.now.legs in
    let t = task_at (g.V.View.shapes c.args.view.now) c.args.graph.now (g.V.View.tables c.args.view.now) [] c.args.mode n.start in
    let rounds = successors.along t legs (last_vertex n.start (hops_at n a.walk)) ([] ∷ []) in
    let al : AreAlong n c.along.new.numbers c.in_ok-walks.walks.items (map (behind (hops_at n a.walk)) rounds) = subst (λ (ws : List (List Hop)). AreAlong n c.along.new.numbers c.in_ok-walks.walks.items ws)
    ((λ i. along t.shapes t.graph t.tables n.start (map leg_view (c.as_slice.ensures i)) (map (hops_at n) (c.in_ok-own.ensures.items i))) ∙ from_own t (hops_at n a.walk) legs) c.in_ok-walks.ensures in
    let long = rounds_long t (last_vertex n.start (hops_at n a.walk)) legs in
    some_rounds c.along.new.numbers a stage c.in_ok-walks.walks.items rounds al.within (are_rounds n c.along.new.numbers a c.requires.fine.within stage c.in_ok-walks.walks.items rounds al long).stand long

pub push_rounds-requires-clause-kept : goal.push_rounds-requires-clause-kept
push_rounds-requires-clause-kept g c = λ κs live. all_within c.args.numbers.now c.along.new.numbers c.in_ok-walks.ensures.grow c.args.states.now c.requires.kept

pub returns-in_ok-walks : goal.returns-in_ok-walks
returns-in_ok-walks g c =
    let n = c.args.numbers.now in
    let m = c.along.new.numbers in
    let l = c.push_rounds.new.numbers in
    let a = c.args.state.now in
    let stage = stage_view c.args.stage.now in
    let legs = map leg_view c.args.stage.now.legs in
    let shapes = g.V.View.shapes c.args.view.now in
    let tables = g.V.View.tables c.args.view.now in
    let v = last_vertex n.start (hops_at n a.walk) in
    on_ok c.push_rounds.result
    ((stages : List Stage) (graph : GraphShape) (rounds : List (List Hop)) → AreRounds m a stage c.in_ok-walks.walks.items rounds → PutStates m l c.args.states.now c.push_rounds.new.states (flat_map (entered_if (task_at shapes graph tables stages c.args.mode m.start) (state_of m a) stage) rounds))
    ((stages : List Stage) → PutStates n l c.args.states.now c.push_rounds.new.states (successors.entered (task_at shapes c.args.graph.now tables stages c.args.mode n.start) (state_of n a) stage))
    (λ p stages.
    let t = task_at shapes c.args.graph.now tables stages c.args.mode n.start in
    let rounds = successors.along t legs v ([] ∷ []) in
    let al : AreAlong n m c.in_ok-walks.walks.items (map (behind (hops_at n a.walk)) rounds) = subst (λ (ws : List (List Hop)). AreAlong n m c.in_ok-walks.walks.items ws)
    ((λ i. along t.shapes t.graph t.tables n.start (map leg_view (c.as_slice.ensures i)) (map (hops_at n) (c.in_ok-own.ensures.items i))) ∙ from_own t (hops_at n a.walk) legs) c.in_ok-walks.ensures in
    let are = are_rounds n m a c.requires.fine.within stage c.in_ok-walks.walks.items rounds al (rounds_long t v legs) in
    let z = state_stays n m al.grow a c.requires.fine.within in
    let s0 = al.grow.start in
    let fits = ap (node_admits (graph_of shapes c.args.graph.now tables) stage.round.node) (sym (c.elem.ensures ∙ c.last-at.ensures.stands)) ∙ sym (c.node_admits.ensures c.args.graph.now) ∙ c.if-node_admits.true in
    subst (λ (ss : List State). PutStates n l c.args.states.now c.push_rounds.new.states ss)
    ((λ i. flat_map (entered_if (task_at shapes c.args.graph.now tables stages c.args.mode (s0 i)) (z i) stage) rounds) ∙ entered_are t (state_of n a) stage true fits)
    (put_on n m l c.args.states.now c.args.states.now c.push_rounds.new.states [] (flat_map (entered_if (task_at shapes c.args.graph.now tables stages c.args.mode m.start) (state_of m a) stage) rounds)
    c.requires.kept (put_none n m al.grow c.args.states.now c.requires.kept) (p stages c.args.graph.now rounds are)))
    c.push_rounds.ensures
