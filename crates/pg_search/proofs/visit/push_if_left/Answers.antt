use Rattle.std.proofs.Common.{◌+◌, [], ◌∷◌, List, cond, refl, ap, sym, subst}
use Rattle.std.proofs.lemmas.Bool.{le-leb}
use Rattle.pg_auto.specs.Autos.{stage_view}
use Rattle.pg_auto.specs.Counts.{may_leave}
use Rattle.pg_auto.specs.States.{State}
use Rattle.pg_auto.specs.Successors.{leave}
use Rattle.pg_search.specs.declared.states.Kept.{Kept}
use Rattle.pg_search.specs.Puts.{IsPut}
use Rattle.pg_search.specs.Numbers.{state_of}
use Rattle.pg_search.specs.Searches.{PutStates}
use Rattle.pg_search.proofs.Naming.{on_ok}
use Rattle.pg_search.proofs.Numbers.{grow_none}
use Rattle.pg_search.proofs.PuttingStates.{put_one}
use Rattle.pg_search.proofs.visit.push_if_left.Goals as goal

pub returns-then-stage-state : goal.returns-then-stage-state
returns-then-stage-state c =
    let n = c.args.numbers.now in
    let a = c.args.state.now in
    let next : Kept = record { stage = a.stage + 1; done = 0; walk = a.walk; singles = a.singles; groups = a.groups } in
    on_ok c.put.result (IsPut c.args.states.now next c.put.new.self)
    (PutStates n n c.args.states.now c.put.new.self (cond (may_leave (stage_view c.args.stage.now) a.done) (leave (state_of n a) ∷ []) []))
    (λ p. subst (λ (ss : List State). PutStates n n c.args.states.now c.put.new.self ss)
    (ap (λ b. cond b (leave (state_of n a) ∷ []) []) (sym (le-leb c.args.stage.now.low a.done c.if-stage-state.true)))
    (put_one n n c.are_numbers.ensures next (leave (state_of n a)) (record { grow = grow_none n; within = record { walk = c.requires.within.walk; singles = c.requires.within.singles; groups = c.requires.within.groups }; stands = refl }) c.args.states.now c.put.new.self c.requires.kept p))
    c.put.ensures.ok
