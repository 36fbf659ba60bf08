use Rattle.std.proofs.Common.{[], ◌∷◌, List, cond, subst}
use Rattle.pg_auto.specs.Autos.{stage_view}
use Rattle.pg_auto.specs.Stages.{Stage}
use Rattle.pg_auto.specs.States.{State}
use Rattle.pg_auto.specs.Counts.{may_enter, may_leave}
use Rattle.pg_auto.specs.Successors.{leave, entered, successors}
use Rattle.pg_search.specs.Numbers.{state_of}
use Rattle.pg_search.specs.Searches.{PutStates, task_at}
use Rattle.pg_search.proofs.Naming.{on_ok}
use Rattle.pg_search.proofs.Numbers.{state_stays, within_stays}
use Rattle.pg_search.proofs.PuttingStates.{put_on}
use Rattle.pg_search.proofs.visit.push_successors.Goals as goal

pub push_if_left-requires-clause-within : goal.push_if_left-requires-clause-within
push_if_left-requires-clause-within g c = within_stays c.args.numbers.now c.push_if_entered.new.numbers (c.in_ok-push_if_entered.ensures []).grow c.args.state.now c.requires.fine.within

pub push_if_left-requires-clause-kept : goal.push_if_left-requires-clause-kept
push_if_left-requires-clause-kept g c = (c.in_ok-push_if_entered.ensures []).within

pub returns : goal.returns
returns g c =
    let n = c.args.numbers.now in
    let m = c.push_if_entered.new.numbers in
    let a = c.args.state.now in
    let stage = stage_view c.args.stage.now in
    let t = λ (stages : List Stage). task_at (g.V.View.shapes c.args.view.now) c.args.graph.now (g.V.View.tables c.args.view.now) stages c.args.mode n.start in
    on_ok c.push_if_left.result
    (PutStates m m c.push_if_entered.new.states c.push_if_left.new.states (cond (may_leave stage a.done) (leave (state_of m a) ∷ []) []))
    ((stages : List Stage) → PutStates n m c.args.states.now c.push_if_left.new.states (successors (t stages) (state_of n a) stage))
    (λ p stages.
    let first = c.in_ok-push_if_entered.ensures stages in
    let z = state_stays n m first.grow a c.requires.fine.within in
    put_on n m m c.args.states.now c.push_if_entered.new.states c.push_if_left.new.states (cond (may_enter stage a.done) (entered (t stages) (state_of n a) stage) []) (cond (may_leave stage a.done) (leave (state_of n a) ∷ []) []) c.requires.kept first
    (subst (λ (s : State). PutStates m m c.push_if_entered.new.states c.push_if_left.new.states (cond (may_leave stage a.done) (leave s ∷ []) [])) z p))
    c.push_if_left.ensures
