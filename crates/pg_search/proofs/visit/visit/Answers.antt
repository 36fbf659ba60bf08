use Rattle.std.proofs.Common.{[], List, map, ap, sym, subst, arith}
use Rattle.std.specs.Prelude.{Some, None}
use Rattle.pg_auto.specs.Autos.{stage_view}
use Rattle.pg_auto.specs.Stages.{Stage}
use Rattle.pg_auto.specs.States.{State}
use Rattle.pg_auto.specs.Successors.{successors, next_states}
use Rattle.pg_search.specs.Checked.{IsCheckedStage}
use Rattle.pg_search.specs.Numbers.{state_of}
use Rattle.pg_search.specs.Searches.{PutStates, task_at}
use Rattle.pg_search.proofs.Naming.{on_ok}
use Rattle.pg_search.proofs.Numbers.{grow_none}
use Rattle.pg_search.proofs.PuttingStates.{put_none, each_at, get_at, get_none}
use Rattle.pg_search.proofs.visit.visit.Goals as goal

pub push_successors-requires-clause-stage : goal.push_successors-requires-clause-stage
push_successors-requires-clause-stage g c = λ κs live. each_at (IsCheckedStage (g.V.View.shapes c.args.view.now)) stage_view c.args.auto.now.stages c.args.state.now.stage c.at-stage.result.now c.requires.stages (let e = c.len-count.ensures in let l = c.if-state-count.true in omega arith) c.at-stage.ensures

pub returns-then-state-count : goal.returns-then-state-count
returns-then-state-count g c =
    let n = c.args.numbers.now in
    let a = c.args.state.now in
    let stages = map stage_view c.args.auto.now.stages in
    let t = task_at (g.V.View.shapes c.args.view.now) c.args.auto.now.graph.now (g.V.View.tables c.args.view.now) stages c.args.mode n.start in
    let at = get_at stage_view c.args.auto.now.stages a.stage c.at-stage.result.now (let e = c.len-count.ensures in let l = c.if-state-count.true in omega arith) c.at-stage.ensures in
    on_ok c.push_successors.result
    ((ss : List Stage) → PutStates n c.push_successors.new.numbers c.args.states.now c.push_successors.new.states (successors (task_at (g.V.View.shapes c.args.view.now) c.args.auto.now.graph.now (g.V.View.tables c.args.view.now) ss c.args.mode n.start) (state_of n a) (stage_view c.at-stage.result.now)))
    (PutStates n c.push_successors.new.numbers c.args.states.now c.push_successors.new.states (next_states t (state_of n a)))
    (λ p. subst (λ (ss : List State). PutStates n c.push_successors.new.numbers c.args.states.now c.push_successors.new.states ss)
    (ap (λ o. elim o [ None ↦ [] | Some stage ↦ successors t (state_of n a) stage ]) (sym at))
    (p stages))
    c.push_successors.ensures

pub returns-else-state-count : goal.returns-else-state-count
returns-else-state-count g c =
    let n = c.args.numbers.now in
    let a = c.args.state.now in
    let stages = map stage_view c.args.auto.now.stages in
    let t = task_at (g.V.View.shapes c.args.view.now) c.args.auto.now.graph.now (g.V.View.tables c.args.view.now) stages c.args.mode n.start in
    let none = get_none stage_view c.args.auto.now.stages a.stage (let e = c.len-count.ensures in let l = c.if-state-count.false in omega arith) in
    subst (λ (ss : List State). PutStates n n c.args.states.now c.args.states.now ss)
    (ap (λ o. elim o [ None ↦ [] | Some stage ↦ successors t (state_of n a) stage ]) (sym none))
    (put_none n n (grow_none n) c.args.states.now c.requires.kept)
