use Rattle.std.proofs.lemmas.List.{length-map}
use Rattle.std.proofs.Common.{[], ◌∷◌, List, ℕ, cond, ap, sym, subst, ◌∙◌}
use Rattle.pg_value.specs.declared.shape.GraphShape.{GraphShape}
use Rattle.pg_value.specs.declared.shape.ElemId.{ElemId}
use Rattle.pg_meaning.specs.Walks.{Hop}
use Rattle.pg_meaning.specs.Fits.{seen_in}
use Rattle.pg_auto.specs.Autos.{leg_view, stage_view}
use Rattle.pg_auto.specs.Stages.{Stage}
use Rattle.pg_auto.specs.States.{State}
use Rattle.pg_auto.specs.Successors.{enter}
use Rattle.pg_search.specs.Numbers.{state_of, hops_at}
use Rattle.pg_search.specs.Steps.{AreSeen}
use Rattle.pg_search.specs.Searches.{IsRoundWalk, PutStates, task_at, entered_if}
use Rattle.pg_search.proofs.Naming.{on_ok}
use Rattle.pg_search.proofs.Numbers.{grow_none}
use Rattle.pg_search.proofs.PuttingStates.{put_none}
use Rattle.pg_search.proofs.entering.push_round.Goals as goal

pub returns-then-fits : goal.returns-then-fits
returns-then-fits g c =
    let n = c.args.numbers.now in
    let stage = stage_view c.args.stage.now in
    let a = c.args.state.now in
    on_ok c.put_entered.result
    ((hops : List Hop) → IsRoundWalk n a stage c.args.walk hops → AreSeen n c.in_ok-seen.seen.items (seen_in stage.round (state_of n a).at hops) → PutStates n c.put_entered.new.numbers c.args.states.now c.put_entered.new.states (enter (state_of n a) stage hops ∷ []))
    ((stages : List Stage) (graph : GraphShape) (hops : List Hop) → IsRoundWalk n a stage c.args.walk hops
    → PutStates n c.put_entered.new.numbers c.args.states.now c.put_entered.new.states (entered_if (task_at (g.V.View.shapes c.args.view.now) graph (g.V.View.tables c.args.view.now) stages c.args.mode n.start) (state_of n a) stage hops))
    (λ p stages graph hops r.
    let s = subst (λ (v : ElemId). AreSeen n c.in_ok-seen.seen.items (seen_in stage.round v hops)) c.last-at.ensures.stands (c.in_ok-seen.ensures (hops_at n a.walk) hops r.stands (r.long ∙ length-map c.args.stage.now.legs leg_view)) in
    let e = c.in_ok-fits.ensures stages graph hops r (subst (λ (xs : List (ℕ × ℕ)). AreSeen n xs (seen_in stage.round (state_of n a).at hops)) (sym c.deref.ensures.value) s) c.requires.fine.permitted c.requires.fine.agree in
    subst (λ (ss : List State). PutStates n c.put_entered.new.numbers c.args.states.now c.put_entered.new.states ss)
    (ap (λ b. cond b (enter (state_of n a) stage hops ∷ []) []) (sym c.if-fits.true ∙ e))
    (p hops r s))
    c.put_entered.ensures

pub returns-else-fits : goal.returns-else-fits
returns-else-fits g c = λ stages graph hops r.
    let n = c.args.numbers.now in
    let stage = stage_view c.args.stage.now in
    let a = c.args.state.now in
    let s = subst (λ (v : ElemId). AreSeen n c.in_ok-seen.seen.items (seen_in stage.round v hops)) c.last-at.ensures.stands (c.in_ok-seen.ensures (hops_at n a.walk) hops r.stands (r.long ∙ length-map c.args.stage.now.legs leg_view)) in
    let e = c.in_ok-fits.ensures stages graph hops r (subst (λ (xs : List (ℕ × ℕ)). AreSeen n xs (seen_in stage.round (state_of n a).at hops)) (sym c.deref.ensures.value) s) c.requires.fine.permitted c.requires.fine.agree in
    subst (λ (ss : List State). PutStates n n c.args.states.now c.args.states.now ss)
    (ap (λ b. cond b (enter (state_of n a) stage hops ∷ []) []) (sym c.if-fits.false ∙ e))
    (put_none n n (grow_none n) c.args.states.now c.requires.kept)
