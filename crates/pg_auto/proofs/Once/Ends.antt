-- A state behind the last stage is known by its binding.
use Rattle.std.proofs.Common.{◌≡◌, ◌≤◌, ℕ, zero, suc, List, [], ◌∷◌, length, arith, ap, sym, ◌∙◌}
use Rattle.std.specs.Prelude.{None, slice_get}
use Rattle.pg_meaning.specs.Walks.{last_vertex}
use Rattle.pg_auto.specs.States.{Task, State, Walked, walked}
use Rattle.pg_auto.specs.Allowed.{task_of}
use Rattle.pg_auto.specs.Once.{IsEnd, WalksByBindings, EndsByBindings}
use Rattle.pg_auto.proofs.Once.{known_by_binding}
use Rattle.pg_auto.proofs.Once.Known.{sound_are_known}

pub walks_by_bindings : WalksByBindings
walks_by_bindings shapes tables path start sound w u j k e = known_by_binding shapes tables path start (sound_are_known shapes path sound) w u j k e

beyond : {X : Type 0} (xs : List X) (k : ℕ) → slice_get xs k ≡ None → length xs ≤ k
beyond [] k h = omega arith
beyond (x ∷ xs) zero h = absurd (cc)
beyond (x ∷ xs) (suc k) h = let l = beyond xs k h in omega arith

-- two ends of one walk
same_end : (t : Task) (s r : State) → IsEnd t s → IsEnd t r → walked s ≡ walked r → s ≡ r
same_end t s r x y e =
    let stage : s.stage ≡ r.stage = (let a = x.valid.within in let b = y.valid.within in let c = beyond t.stages s.stage x.is_end in let d = beyond t.stages r.stage y.is_end in omega arith) in
    let done : s.done ≡ r.done = x.valid.ended x.is_end ∙ sym (y.valid.ended y.is_end) in
    let at : s.at ≡ r.at = x.valid.at ∙ ap (λ (w : Walked). last_vertex t.start w.hops) e ∙ sym y.valid.at in
    λ i. record { stage = stage i; done = done i; at = at i; hops = (e i).hops; singles = (e i).singles; groups = (e i).groups }

pub ends_by_bindings : EndsByBindings
ends_by_bindings shapes tables path start sound s r x y e =
    same_end (task_of shapes tables path start) s r x y (walks_by_bindings shapes tables path start sound (walked s) (walked r) x.completes y.completes e)
