-- The bindings of the states behind the last stage, where no state waits, are what is allowed from the start, each once.
use Rattle.std.proofs.Common.{◌≡◌, ◌↔◌, ◌≤◌, ℕ, zero, suc, Bool, true, false, cond, List, [], ◌∷◌, map, length, Contains, ◌⊎◌, inl, inr, refl, arith, ap, sym, ◌∙◌, subst}
use Rattle.std.specs.Prelude.{None, nat_le, filter, slice_get}
use Rattle.std.proofs.lemmas.Bool.{leb-true, le-leb}
use Rattle.pg_value.specs.declared.shape.ElemId.{ElemId}
use Rattle.pg_value.specs.declared.shape.Shapes.{Shapes}
use Rattle.pg_value.specs.Graph.{vertices}
use Rattle.pg_value.specs.Tables.{Tables, IsInOrder}
use Rattle.pg_meaning.specs.declared.checked.CheckedPath.{CheckedPath}
use Rattle.pg_meaning.specs.Bindings.{Binding, Distinct}
use Rattle.pg_meaning.specs.Members.{in_nil, in_here, in_there, in_cons, in_map, from_map, in_filter}
use Rattle.pg_meaning.specs.Outlines.{walks_on}
use Rattle.pg_meaning.specs.Sound.Patterns.{IsSoundPath, outlines}
use Rattle.pg_auto.specs.States.{Task, State, Walked, Completes, first_state, walked, binding_of}
use Rattle.pg_auto.specs.Allowed.{StartStands, IsWalked, task_of}
use Rattle.pg_auto.specs.Steps.{StepsOn, StepsEnd}
use Rattle.pg_auto.specs.Ranks.{SoundAreBounded, RanksFall}
use Rattle.pg_auto.specs.Once.{IsEnd, EndsByBindings}
use Rattle.pg_search.specs.Found.{AreBindings}
use Rattle.pg_search.specs.Searches.{Visits}
use Rattle.pg_search.proofs.Visits.{IsFound, found}

-- BEHIND THE LAST STAGE

-- a state behind the last stage
abbrev pub is_end : Task → State → Bool
is_end t s = nat_le (length t.stages) s.stage

-- the bindings of the states behind the last stage
abbrev pub bindings_in : Task → List ℕ → List State → List Binding
bindings_in t vars all = map (λ s. binding_of t.start vars (walked s)) (filter (is_end t) all)

-- THE LAWS

-- the laws of the automaton that a search rests on
pub record Laws : Type 0 where
  pub stands : StartStands
  pub on : StepsOn
  pub end : StepsEnd
  pub bounded : SoundAreBounded
  pub falls : RanksFall
  pub apart : EndsByBindings

none_from : {X : Type 0} (xs : List X) (k : ℕ) → length xs ≤ k → slice_get xs k ≡ None
none_from [] zero l = refl
none_from [] (suc k) l = refl
none_from (x ∷ xs) zero l = absurd (omega arith)
none_from (x ∷ xs) (suc k) l = none_from xs k (omega arith)

beyond : {X : Type 0} (xs : List X) (k : ℕ) → slice_get xs k ≡ None → length xs ≤ k
beyond [] k h = omega arith
beyond (x ∷ xs) zero h = absurd (cc)
beyond (x ∷ xs) (suc k) h = let l = beyond xs k h in omega arith

-- FILTERED LISTS

module _ {X : Type 0} (test : X → Bool) where
  pub kept : (xs : List X) (x : X) → Contains xs x → test x ≡ true → Contains (filter test xs) x
  kept [] x c t = absurd (in_nil x c)
  kept (y ∷ ys) x c t = go (test y) refl (in_cons y ys x c) (λ r. kept ys x r t)
    where
      go : (b : Bool) → test y ≡ b → (y ≡ x) ⊎ Contains ys x → (Contains ys x → Contains (filter test ys) x) → Contains (cond b (y ∷ filter test ys) (filter test ys)) x
      go true e (inl s) again = in_here y (filter test ys) x s
      go true e (inr r) again = in_there y (filter test ys) x (again r)
      go false e (inl s) again = absurd (let k : true ≡ false = sym t ∙ ap test (sym s) ∙ e in cc)
      go false e (inr r) again = again r

-- what is distinct, and has distinct images, has them
distinct_images : {X Y : Type 0} (test : X → Bool) (f : X → Y) (xs : List X) → Distinct xs → ((x y : X) → Contains xs x → Contains xs y → test x ≡ true → test y ≡ true → f x ≡ f y → x ≡ y)
    → Distinct (map f (filter test xs))
distinct_images test f [] d h = tt
distinct_images test f (x ∷ xs) d h = go (test x) refl (distinct_images test f xs d.1 (λ y z c e s t g. h y z (in_there x xs y c) (in_there x xs z e) s t g))
  where
    go : (b : Bool) → test x ≡ b → Distinct (map f (filter test xs)) → Distinct (map f (cond b (x ∷ filter test xs) (filter test xs)))
    go false e r = r
    go true e r = (
      λ c. let m = from_map f (filter test xs) (f x) c in
          let k = in_filter test xs m.0 m.1 in
          d.0 (subst (λ z. Contains xs z) (h m.0 x (in_there x xs m.0 k.0) (in_here x xs x refl) k.1 e m.2) k.0),
      r,
    )

-- WHAT IS FOUND

module _ (laws : Laws) (shapes : Shapes) (tables : Tables) (path : CheckedPath) (start : ElemId) (sound : IsSoundPath shapes path) (order : IsInOrder tables) (ends : walks_on path.mode (outlines path) ≡ false)
    (all : List State) (i : ℕ) (over : length all ≤ i) (v : Visits (task_of shapes tables path start) all i) where
  abbrev task : Task
  task = task_of shapes tables path start

  abbrev binding : State → Binding
  binding s = binding_of start path.vars (walked s)

  finds : (w : Walked) → IsFound task all w ↔ Completes task (first_state start) w
  finds w = found laws.on laws.end laws.falls task (record { graph = sound.graph; tables = order }) (laws.bounded shapes path sound ends) all i over v w

  -- a state that is kept behind the last stage is an end
  ended : (s : State) → Contains all s → is_end task s ≡ true → IsEnd task s
  ended s c e =
      let none = none_from task.stages s.stage (leb-true (length task.stages) s.stage e) in
      record { valid = v.valid s c; is_end = none; completes = (finds (walked s)).0 (record { state = s; there = c; is_end = none; walk = refl }) }

  once : Distinct (bindings_in task path.vars all)
  once = distinct_images (is_end task) binding all v.distinct (λ s r c d e f same. laws.apart shapes tables path start sound s r (ended s c e) (ended r d f) same)

  got : (b : Binding) → IsWalked task path.vars b → Contains (bindings_in task path.vars all) b
  got b w =
      let f = (finds w.walk).1 w.completes in
      let kept_end = kept (is_end task) all f.state f.there (le-leb (length task.stages) f.state.stage (beyond task.stages f.state.stage f.is_end)) in
      subst (λ z. Contains (bindings_in task path.vars all) z) (ap (binding_of start path.vars) (sym f.walk) ∙ sym w.binding) (in_map binding (filter (is_end task) all) f.state kept_end)

  given : (b : Binding) → Contains (bindings_in task path.vars all) b → IsWalked task path.vars b
  given b c =
      let m = from_map binding (filter (is_end task) all) b c in
      let k = in_filter (is_end task) all m.0 m.1 in
      record { walk = walked m.0; completes = (ended m.0 k.0 k.1).completes; binding = sym m.2 }

  pub are_paths : Contains (vertices path.graph tables) start → AreBindings shapes tables path start (bindings_in task path.vars all)
  are_paths vertex = record {
    exactly = λ b. (λ c. (laws.stands shapes tables path start vertex b).1 (given b c), λ a. got b ((laws.stands shapes tables path start vertex b).0 a));
    once = once;
  }
