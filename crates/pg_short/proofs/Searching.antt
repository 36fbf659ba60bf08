-- What a search keeps of the steps that it has found: their numbers in the order in which their spots were visited, and the numbers of those
-- that wait, each with its count of hops.
use Rattle.std.proofs.Common.{◌≡◌, true, ◌<◌, ◌≤◌, ◌+◌, ◌-◌, ℕ, zero, suc, List, [], ◌∷◌, ◌++◌, length, map, Contains, ◌⊎◌, inl, inr, refl, arith, ap, sym, ◌∙◌, subst, length-append}
use Rattle.std.specs.Prelude.{Option, Some, None, slice_get}
use Rattle.std.specs.Option.{unwrap_or}
use Rattle.std.proofs.lemmas.Bool.Decides.{leb_tells}
use Rattle.pg_meaning.specs.Members.{in_nil, in_here, in_there, in_cons, in_one, in_append, in_map, from_map}
use Rattle.pg_meaning.specs.Outlines.{is_walk}
use Rattle.pg_auto.specs.States.{Task, State, first_state}
use Rattle.pg_auto.specs.Tests.{TestsTell}
use Rattle.pg_short.specs.Spots.{spot_of}
use Rattle.pg_short.specs.Steps.{Step, moved, came, next_steps}
use Rattle.pg_short.proofs.Lists.{one_get, within}
use Rattle.pg_short.specs.Searches.{Follows, Searches, StandsFor, states, state_at, visited, waiting, IsSearch, IsOut, IsMore}
use Rattle.pg_short.proofs.Reached.{Stands, stands}
use Rattle.pg_short.proofs.Layers.{IsTaken, passes, visits}
use Rattle.pg_short.proofs.Grown.{get_front, get_behind, as_many, states_behind}
use Rattle.pg_short.proofs.Moving.{IsMoved, steps_move, all_made}

taken : (t : Task) (found : List Step) (e : ℕ × ℕ) (queue rest : List (ℕ × ℕ)) → IsOut e queue rest → IsTaken (state_at t found e.1) (waiting t found queue) (waiting t found rest)
taken t found e queue rest o = record {
  own = in_map (λ (x : ℕ × ℕ). state_at t found x.1) queue e o.own;
  back = λ s c. let m = from_map (λ (x : ℕ × ℕ). state_at t found x.1) rest s c in subst (λ z. Contains (waiting t found queue) z) m.2 (in_map (λ (x : ℕ × ℕ). state_at t found x.1) queue m.0 (o.back m.0 m.1));
  stays = λ s c. let m = from_map (λ (x : ℕ × ℕ). state_at t found x.1) queue s c in elim (o.stays m.0 m.1) [
    | inl e ↦ inl (ap (λ (x : ℕ × ℕ). state_at t found x.1) e ∙ m.2)
    | inr r ↦ inr (subst (λ z. Contains (waiting t found rest) z) m.2 (in_map (λ (x : ℕ × ℕ). state_at t found x.1) rest m.0 r))
  ];
}

module _ (tells : TestsTell) (t : Task) (walk : is_walk t.mode ≡ true) where
  -- a step to a spot that is visited is passed over
  pub pass_step : (found : List Step) (order : List ℕ) (queue rest : List (ℕ × ℕ)) (e : ℕ × ℕ) (step : Step) → slice_get found e.1 ≡ Some step → IsOut e queue rest
      → Contains (map (spot_of t.stages) (visited t found order)) step.spot → IsSearch t found order queue → IsSearch t found order rest
  pass_step found order queue rest e step here o known v = record {
    searches = passes tells t walk (visited t found order) (waiting t found queue) (waiting t found rest) (state_at t found e.1) (taken t found e queue rest o)
        (subst (λ z. Contains (map (spot_of t.stages) (visited t found order)) z) (v.stands e.1 step here).spot known) v.searches;
    stands = v.stands;
    ordered = v.ordered;
    queued = λ x c. v.queued x (o.back x c);
  }

pub below : (k n : ℕ) → (k < n) ⊎ (n ≤ k)
below k n = elim (leb_tells n k) [ inl x ↦ inr x.1 | inr x ↦ inl (let l = x.1 in omega arith) ]

pub in_get : {X : Type 0} (xs : List X) (x : X) → Contains xs x → (k : ℕ) × (k < length xs) × (slice_get xs k ≡ Some x)
in_get [] x c = absurd (in_nil x c)
in_get (y ∷ xs) x c = elim (in_cons y xs x c) [ inl e ↦ (0, omega arith, ap Some e) | inr r ↦ (let m = in_get xs x r in (suc m.0, let l = m.1 in omega arith, m.2)) ]

pub get_in : {X : Type 0} (xs : List X) (k : ℕ) (x : X) → slice_get xs k ≡ Some x → Contains xs x
get_in [] k x h = absurd (cc)
get_in (y ∷ xs) zero x h = in_here y xs x (let same : y ≡ x = cc in same)
get_in (y ∷ xs) (suc k) x h = in_there y xs x (get_in xs k x h)

get_some : {X : Type 0} (xs : List X) (k : ℕ) (d : X) → k < length xs → slice_get xs k ≡ Some (unwrap_or (slice_get xs k) d)
get_some [] k d l = absurd (omega arith)
get_some (y ∷ xs) zero d l = refl
get_some (y ∷ xs) (suc k) d l = get_some xs k d (omega arith)

get_mapped : {X Y : Type 0} (f : X → Y) (xs : List X) (k : ℕ) (x : X) → slice_get xs k ≡ Some x → slice_get (map f xs) k ≡ Some (f x)
get_mapped f [] k x e = absurd (cc)
get_mapped f (y ∷ ys) zero x e = let same : y ≡ x = cc in ap (λ z. Some (f z)) same
get_mapped f (y ∷ ys) (suc k) x e = get_mapped f ys k x e

map_alike : {X Y : Type 0} (f h : X → Y) (xs : List X) → ((x : X) → Contains xs x → f x ≡ h x) → map f xs ≡ map h xs
map_alike f h [] e = refl
map_alike f h (x ∷ xs) e = let first = e x (in_here x xs x refl) in let rest = map_alike f h xs (λ y c. e y (in_there x xs y c)) in λ i. first i ∷ rest i

pub map_both : {X Y : Type 0} (f : X → Y) (xs ys : List X) → map f (xs ++ ys) ≡ map f xs ++ map f ys
map_both f [] ys = refl
map_both f (x ∷ xs) ys = ap (λ zs. f x ∷ zs) (map_both f xs ys)

module _ (tells : TestsTell) (t : Task) (walk : is_walk t.mode ≡ true) (found : List Step) (order : List ℕ) (queue rest : List (ℕ × ℕ)) (e : ℕ × ℕ) (step : Step) (here : slice_get found e.1 ≡ Some step)
    (out : IsOut e queue rest) (low : (x : ℕ × ℕ) → Contains queue x → e.0 ≤ x.0) (v : IsSearch t found order queue) (more : List (ℕ × ℕ))
    (pushed : IsMore (length found) (next_steps t.shapes t.tables t.graph t.stages e.1 step) rest more) where
  abbrev pub new : List Step
  new = next_steps t.shapes t.tables t.graph t.stages e.1 step

  abbrev pub all : List Step
  all = found ++ new

  abbrev pub s : State
  s = state_at t found e.1

  s_waits : Contains (waiting t found queue) s
  s_waits = in_map (λ (x : ℕ × ℕ). state_at t found x.1) queue e out.own

  own_agrees : Stands t s
  own_agrees = stands tells t walk s (v.searches.waits s s_waits)

  pub moves : (y : Step) → Contains new y → IsMoved t e.1 s y
  moves y c = steps_move tells t walk e.1 s own_agrees.agree step (v.stands e.1 step here) y c

  inside : e.1 < length found
  inside = within found e.1 step here

  states_grow : states t all ≡ states t found ++ map (came t.stages t.start (states t found)) new
  states_grow = states_behind t.stages t.start found new (λ y c. let b = (moves y c).before in let l = inside in omega arith)

  stays_at : (k : ℕ) → k < length found → state_at t all k ≡ state_at t found k
  stays_at k l = ap (λ (o : Option State). unwrap_or o (first_state t.start)) (ap (λ xs. slice_get xs k) states_grow
      ∙ get_front (states t found) (map (came t.stages t.start (states t found)) new) k (let m = as_many t.stages t.start found in omega arith))

  moved_at : (k : ℕ) (y : Step) → slice_get new k ≡ Some y → state_at t all (length found + k) ≡ moved t.stages s y
  moved_at k y h =
      ap (λ (o : Option State). unwrap_or o (first_state t.start)) (ap (λ xs. slice_get xs (length found + k)) states_grow
      ∙ ap (λ n. slice_get (states t found ++ map (came t.stages t.start (states t found)) new) (n + k)) (sym (as_many t.stages t.start found))
      ∙ get_behind (states t found) (map (came t.stages t.start (states t found)) new) k
      ∙ get_mapped (came t.stages t.start (states t found)) new k y h)
      ∙ ap (λ (o : Option State). elim o as (λ _. State) [ None ↦ first_state t.start | Some x ↦ moved t.stages x y ])
      (ap (slice_get (states t found)) (moves y (get_in new k y h)).before ∙ get_some (states t found) e.1 (first_state t.start) (let m = as_many t.stages t.start found in let l = inside in omega arith))

  pub visited_grow : visited t all (order ++ e.1 ∷ []) ≡ visited t found order ++ s ∷ []
  visited_grow = map_both (state_at t all) order (e.1 ∷ []) ∙ (λ i. map_alike (state_at t all) (state_at t found) order (λ k c. stays_at k (v.ordered k c)) i ++ stays_at e.1 inside i ∷ [])

  keeps_waiting : (w : State) → Contains (waiting t found rest) w → Contains (waiting t all more) w
  keeps_waiting w c =
      let m = from_map (λ (x : ℕ × ℕ). state_at t found x.1) rest w c in
      let q = v.queued m.0 (out.back m.0 m.1) in
      subst (λ z. Contains (waiting t all more) z) (stays_at m.0.1 (within found m.0.1 q.step q.there) ∙ m.2) (in_map (λ (x : ℕ × ℕ). state_at t all x.1) more m.0 (pushed.keeps m.0 m.1))

  adds_waiting : (c : State) → Follows t s c → Contains (waiting t all more) c
  adds_waiting c f =
      let a = all_made tells t walk e.1 s own_agrees.agree step (v.stands e.1 step here) c f in
      let k = in_get new a.made a.among in
      subst (λ z. Contains (waiting t all more) z) (moved_at k.0 a.made k.2 ∙ a.is) (in_map (λ (x : ℕ × ℕ). state_at t all x.1) more (a.made.long, length found + k.0) (pushed.adds k.0 a.made k.2))

  whence_waiting : (w : State) → Contains (waiting t all more) w → Contains (waiting t found rest) w ⊎ Follows t s w
  whence_waiting w c =
      let m = from_map (λ (x : ℕ × ℕ). state_at t all x.1) more w c in
      elim (pushed.whence m.0 m.1) [
        | inl a ↦ (let q = v.queued m.0 (out.back m.0 a) in
            inl (subst (λ z. Contains (waiting t found rest) z) (sym (stays_at m.0.1 (within found m.0.1 q.step q.there)) ∙ m.2) (in_map (λ (x : ℕ × ℕ). state_at t found x.1) rest m.0 a)))
        | inr b ↦ inr (subst (Follows t s) (sym (moved_at b.0 b.1 b.2) ∙ ap (λ (x : ℕ × ℕ). state_at t all x.1) b.3 ∙ m.2) (moves b.1 (get_in new b.0 b.1 b.2)).follows)
      ]

  stands_all : (k : ℕ) (y : Step) → slice_get all k ≡ Some y → StandsFor t (state_at t all k) y
  stands_all k y h = elim (below k (length found)) [
    | inl l ↦ subst (λ x. StandsFor t x y) (sym (stays_at k l)) (v.stands k y (sym (get_front found new k l) ∙ h))
    | inr l ↦ (let e : k ≡ length found + (k - length found) = omega arith in
        let g : slice_get new (k - length found) ≡ Some y = sym (get_behind found new (k - length found)) ∙ ap (slice_get all) (sym e) ∙ h in
        let m = moves y (get_in new (k - length found) y g) in
        subst (λ x. StandsFor t x y) (sym (ap (state_at t all) e ∙ moved_at (k - length found) y g)) (record { spot = m.spot; long = m.long }))
  ]

  -- a step to a spot that is not visited is visited, and the steps from it wait from now on
  pub visit_step : (Contains (map (spot_of t.stages) (visited t found order)) step.spot → ⊥) → IsSearch t all (order ++ e.1 ∷ []) more
  visit_step fresh = record {
    searches = subst (λ xs. Searches t xs (waiting t all more)) (sym visited_grow)
        (visits tells t walk (visited t found order) (waiting t found queue) (waiting t found rest) (waiting t all more) s (taken t found e queue rest out)
        (λ w c. let m = from_map (λ (x : ℕ × ℕ). state_at t found x.1) queue w c in
        let q = v.queued m.0 m.1 in
        let l = low m.0 m.1 in
        let a = (v.queued e out.own).long in
        let b = (v.stands e.1 step here).long in
        let f = ap (λ (x : Step). x.long) (one_get (slice_get found e.1) (v.queued e out.own).step step (v.queued e out.own).there here) in
        let g = q.long in
        let h = (v.stands m.0.1 q.step q.there).long in
        let i = ap (λ (x : State). length x.hops) m.2 in
        omega arith)
        (λ c. fresh (subst (λ z. Contains (map (spot_of t.stages) (visited t found order)) z) (sym (v.stands e.1 step here).spot) c))
        keeps_waiting adds_waiting whence_waiting v.searches);
    stands = stands_all;
    ordered = λ k c. elim (in_append order (e.1 ∷ []) k c) [
      | inl a ↦ (let l = v.ordered k a in let m = length-append found new in omega arith)
      | inr b ↦ (let q = in_one e.1 k b in let l = inside in let m = length-append found new in omega arith)
    ];
    queued = λ x c. elim (pushed.whence x c) [
      | inl a ↦ (let q = v.queued x (out.back x a) in record { step = q.step; there = get_front found new x.1 (within found x.1 q.step q.there) ∙ q.there; long = q.long })
      | inr b ↦ record { step = b.1; there = ap (slice_get all) (sym (ap (λ (z : ℕ × ℕ). z.1) b.3)) ∙ get_behind found new b.0 ∙ b.2; long = sym (ap (λ (z : ℕ × ℕ). z.0) b.3) }
    ];
  }
