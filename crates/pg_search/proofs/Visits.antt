-- A search that visits each state once. It keeps one list of states without doubles: those before a place are visited, and those from
-- there on wait. Visiting a state puts those that follow it behind the others, where they are not there yet.
use Rattle.std.proofs.Common.{◌≡◌, ◌↔◌, ℕ, ◌+◌, ◌<◌, ◌≤◌, zero, suc, List, [], ◌∷◌, ◌++◌, length, drop, Contains, ◌⊎◌, inl, inr, refl, arith, ap, sym, ◌∙◌, subst, add-one, eq-or-lt_of_le, length-append}
use Rattle.std.specs.Prelude.{Option, Some, None, slice_get, sum_by}
use Rattle.std.proofs.lemmas.List.Sums.{sum_by-cons, sum_by_push}
use Rattle.pg_meaning.specs.Bindings.{Distinct}
use Rattle.pg_meaning.specs.Members.{in_nil, in_here, in_there, in_cons, in_one, in_left, in_right, in_append}
use Rattle.pg_auto.specs.Stages.{Stage}
use Rattle.pg_search.specs.Puts.{IsPut}
use Rattle.pg_search.specs.Searches.{ArePut, Visits}
use Rattle.pg_search.proofs.Putting.{distinct_put}
use Rattle.pg_auto.specs.States.{Task, State, Walked, Completes, first_state, walked}
use Rattle.pg_auto.specs.Successors.{successors}
use Rattle.pg_auto.specs.Steps.{IsSoundTask, StepsOn, StepsEnd}
use Rattle.pg_auto.specs.Ranks.{AreBounded, IsValid, FirstIsValid, RanksFall, WeightsFall, rank, size, weight}

-- PUTTING STATES BEHIND OTHERS

-- what was there stays, and what comes is of those that are put
pub record Grows (all cs more : List State) : Type 0 where
  pub tail : List State
  pub whole : more ≡ all ++ tail
  pub of_put : (s : State) → Contains tail s → Contains cs s
  pub put : (s : State) → Contains cs s → Contains more s

put_tail : (all : List State) (c : State) (next : List State) → IsPut all c next → (tail : List State) × (next ≡ all ++ tail) × ((s : State) → Contains tail s → c ≡ s)
put_tail all c next (inl p) = ([], p.0 ∙ sym (append_none all), λ s d. absurd (in_nil s d))
  where
    append_none : (xs : List State) → xs ++ [] ≡ xs
    append_none [] = refl
    append_none (x ∷ xs) = ap (λ ys. x ∷ ys) (append_none xs)
put_tail all c next (inr p) = (c ∷ [], p.0, λ s d. in_one c s d)

is_there : (all : List State) (c : State) (next : List State) → IsPut all c next → Contains next c
is_there all c next (inl p) = subst (λ xs. Contains xs c) (sym p.0) p.1
is_there all c next (inr p) = subst (λ xs. Contains xs c) (sym p.0) (in_right all (c ∷ []) c (in_here c [] c refl))

append_again : (xs ys zs : List State) → (xs ++ ys) ++ zs ≡ xs ++ (ys ++ zs)
append_again [] ys zs = refl
append_again (x ∷ xs) ys zs = ap (λ us. x ∷ us) (append_again xs ys zs)

append_nothing : (xs : List State) → xs ≡ xs ++ []
append_nothing [] = refl
append_nothing (x ∷ xs) = ap (λ ys. x ∷ ys) (append_nothing xs)

pub grows : (all cs more : List State) → ArePut all cs more → Grows all cs more
grows all [] more p = record { tail = []; whole = sym p ∙ append_nothing all; of_put = λ s c. c; put = λ s c. absurd (in_nil s c) }
grows all (c ∷ cs) more p =
    let first = put_tail all c p.0 p.1 in
    let rest = grows p.0 cs more p.2 in record {
      tail = first.0 ++ rest.tail;
      whole = rest.whole ∙ ap (λ xs. xs ++ rest.tail) first.1 ∙ append_again all first.0 rest.tail;
      of_put = λ s d. elim (in_append first.0 rest.tail s d) [ inl a ↦ in_here c cs s (first.2 s a) | inr b ↦ in_there c cs s (rest.of_put s b) ];
      put = λ s d. elim (in_cons c cs s d) [
        | inl e ↦ subst (λ xs. Contains xs s) (sym rest.whole) (in_left p.0 rest.tail s (subst (λ x. Contains p.0 x) e (is_there all c p.0 p.1)))
        | inr r ↦ rest.put s r
      ];
    }

pub distinct_all : (all cs more : List State) → ArePut all cs more → Distinct all → Distinct more
distinct_all all [] more p d = subst Distinct p d
distinct_all all (c ∷ cs) more p d = distinct_all p.0 cs more p.2 (distinct_put all c p.0 p.1 d)

-- WHAT A SEARCH KEEPS

pub begins : FirstIsValid → (t : Task) → Visits t (first_state t.start ∷ []) 0
begins first t = record {
  begun = in_here (first_state t.start) [] (first_state t.start) refl;
  distinct = (in_nil (first_state t.start), tt);
  closed = λ k s stage l g h c d. absurd (omega arith);
  valid = λ s c. subst (λ (x : State). IsValid t x) (in_one (first_state t.start) s c) (first t);
  leads = λ s w c k. subst (λ (x : State). Completes t x w) (sym (in_one (first_state t.start) s c)) k;
}

get_in : (xs : List State) (k : ℕ) (s : State) → slice_get xs k ≡ Some s → Contains xs s
get_in [] k s h = absurd (cc)
get_in (x ∷ xs) zero s h = in_here x xs s (let same : x ≡ s = cc in same)
get_in (x ∷ xs) (suc k) s h = in_there x xs s (get_in xs k s h)

in_get : (xs : List State) (s : State) → Contains xs s → (k : ℕ) × (k < length xs) × (slice_get xs k ≡ Some s)
in_get [] s c = absurd (in_nil s c)
in_get (x ∷ xs) s c = elim (in_cons x xs s c) [ inl e ↦ (0, omega arith, ap Some e) | inr r ↦ (let m = in_get xs s r in (suc m.0, let l = m.1 in omega arith, m.2)) ]

get_front : (xs ys : List State) (k : ℕ) → k < length xs → slice_get (xs ++ ys) k ≡ slice_get xs k
get_front [] ys k l = absurd (omega arith)
get_front (x ∷ xs) ys zero l = refl
get_front (x ∷ xs) ys (suc k) l = get_front xs ys k (omega arith)

one_get : {X : Type 0} (o : Option X) (x y : X) → o ≡ Some x → o ≡ Some y → x ≡ y
one_get o x y h k = let same : Some x ≡ Some y = sym h ∙ k in cc

-- a state in a stage is visited
pub visits : StepsOn → RanksFall → (t : Task) → IsSoundTask t → AreBounded t.mode t.stages → (all : List State) (i : ℕ) (s : State) (stage : Stage) (more : List State)
    → slice_get all i ≡ Some s → slice_get t.stages s.stage ≡ Some stage → i < length all → ArePut all (successors t s stage) more → Visits t all i → Visits t more (i + 1)
visits on falls t sound bounded all i s stage more here is_at within p v = record {
  begun = stays (first_state t.start) v.begun;
  distinct = distinct_all all (successors t s stage) more p v.distinct;
  closed = λ k x st l g h c d. go k x st l (back k (omega arith) ∙ g) h c d;
  valid = λ x c. elim (whence x c) [ inl a ↦ v.valid x a | inr b ↦ (falls t sound bounded s (v.valid s own) stage is_at x b).valid ];
  leads = λ x w c k. elim (whence x c) [ inl a ↦ v.leads x w a k | inr b ↦ v.leads s w own ((on t sound s stage is_at w).1 (record { next = x; follows = b; completes = k })) ];
}
  where
    g : Grows all (successors t s stage) more
    g = grows all (successors t s stage) more p

    own : Contains all s
    own = get_in all i s here

    stays : (x : State) → Contains all x → Contains more x
    stays x c = subst (λ xs. Contains xs x) (sym g.whole) (in_left all g.tail x c)

    whence : (x : State) → Contains more x → Contains all x ⊎ Contains (successors t s stage) x
    whence x c = elim (in_append all g.tail x (subst (λ xs. Contains xs x) g.whole c)) [ inl a ↦ inl a | inr b ↦ inr (g.of_put x b) ]

    back : (k : ℕ) → k < length all → slice_get all k ≡ slice_get more k
    back k l = sym (ap (λ xs. slice_get xs k) g.whole ∙ get_front all g.tail k l)

    go : (k : ℕ) (x : State) (st : Stage) → k < i + 1 → slice_get all k ≡ Some x → slice_get t.stages x.stage ≡ Some st → (c : State) → Contains (successors t x st) c → Contains more c
    go k x st l f h c d = elim (eq-or-lt_of_le (let j : k ≤ i = omega arith in j)) [
      | inl e ↦ (let same = one_get (slice_get all i) x s (ap (slice_get all) (sym e) ∙ f) here in
          let same_stage = one_get (slice_get t.stages s.stage) st stage (ap (λ (y : State). slice_get t.stages y.stage) (sym same) ∙ h) is_at in
          g.put c (subst (λ z. Contains (successors t s z) c) same_stage (subst (λ (y : State). Contains (successors t y st) c) same d)))
      | inr m ↦ stays c (v.closed k x st m f h c d)
    ]

-- a state behind the last stage is visited
pub passes : (t : Task) (all : List State) (i : ℕ) (s : State) → slice_get all i ≡ Some s → slice_get t.stages s.stage ≡ None → Visits t all i → Visits t all (i + 1)
passes t all i s here is_end v = record {
  begun = v.begun;
  distinct = v.distinct;
  closed = λ k x stage l f h c d. elim (eq-or-lt_of_le (let j : k ≤ i = omega arith in j)) [
    | inl e ↦ (let same = one_get (slice_get all i) x s (ap (slice_get all) (sym e) ∙ f) here in
        absurd (none_some (slice_get t.stages s.stage) stage is_end (ap (λ (y : State). slice_get t.stages y.stage) (sym same) ∙ h)))
    | inr m ↦ v.closed k x stage m f h c d
  ];
  valid = v.valid;
  leads = v.leads;
}
  where
    none_some : (o : Option Stage) (x : Stage) → o ≡ None → o ≡ Some x → ⊥
    none_some o x h k = let e : None ≡ Some x = sym h ∙ k in cc

-- WHAT IS FOUND

-- a state behind the last stage, whose walk it is
pub record IsFound (t : Task) (all : List State) (w : Walked) : Type 0 where
  pub state : State
  pub there : Contains all state
  pub is_end : slice_get t.stages state.stage ≡ None
  pub walk : w ≡ walked state

one_step : StepsOn → StepsEnd → RanksFall → (t : Task) → IsSoundTask t → AreBounded t.mode t.stages → (all : List State) (i : ℕ) → length all ≤ i → Visits t all i
    → (s : State) (w : Walked) → Contains all s → Completes t s w → (o : Option Stage) → slice_get t.stages s.stage ≡ o
    → ((c : State) → rank t c < rank t s → Contains all c → Completes t c w → IsFound t all w) → IsFound t all w
one_step on end falls t sound bounded all i over v s w here c None e again = record { state = s; there = here; is_end = e; walk = ((end t s e w).0 c).1 }
one_step on end falls t sound bounded all i over v s w here c (Some stage) e again =
    let step = (on t sound s stage e w).0 c in
    let k = in_get all s here in
    again step.next (falls t sound bounded s (v.valid s here) stage e step.next step.follows).lower
    (v.closed k.0 s stage (let l = k.1 in omega arith) k.2 e step.next step.follows) step.completes

-- where no state waits, each walk that completes a state that is there is found
all_found : StepsOn → StepsEnd → RanksFall → (t : Task) → IsSoundTask t → AreBounded t.mode t.stages → (all : List State) (i : ℕ) → length all ≤ i → Visits t all i
    → (n : ℕ) (s : State) (w : Walked) → rank t s ≤ n → Contains all s → Completes t s w → IsFound t all w
all_found on end falls t sound bounded all i over v zero s w r here c =
    one_step on end falls t sound bounded all i over v s w here c (slice_get t.stages s.stage) refl (λ x l m k. absurd (omega arith))
all_found on end falls t sound bounded all i over v (suc n) s w r here c =
    one_step on end falls t sound bounded all i over v s w here c (slice_get t.stages s.stage) refl (λ x l m k. all_found on end falls t sound bounded all i over v n x w (omega arith) m k)

-- so what completes the first state is what is found
pub found : StepsOn → StepsEnd → RanksFall → (t : Task) → IsSoundTask t → AreBounded t.mode t.stages → (all : List State) (i : ℕ) → length all ≤ i → Visits t all i
    → (w : Walked) → IsFound t all w ↔ Completes t (first_state t.start) w
found on end falls t sound bounded all i over v w = (
  λ f. v.leads f.state w f.there (subst (λ (x : Walked). Completes t f.state x) (sym f.walk)
      ((end t f.state f.is_end (walked f.state)).1 (record { permitted = (v.valid f.state f.there).permitted.permitted; agree = (v.valid f.state f.there).permitted.agree }, refl))),
  λ c. all_found on end falls t sound bounded all i over v (rank t (first_state t.start)) (first_state t.start) w (omega arith) v.begun c,
)

-- WHY IT ENDS

-- the states that wait, by their weights
pub waiting : Task → List State → ℕ → ℕ
waiting t all i = sum_by (weight t) (drop i all)

drop_push : (xs : List State) (i : ℕ) (x : State) → i ≤ length xs → drop i (xs ++ x ∷ []) ≡ drop i xs ++ x ∷ []
drop_push xs zero x l = refl
drop_push [] (suc i) x l = absurd (omega arith)
drop_push (y ∷ xs) (suc i) x l = drop_push xs i x (omega arith)

one_put : (f : State → ℕ) (all : List State) (c : State) (next : List State) (i : ℕ) → i ≤ length all → IsPut all c next
    → (sum_by f (drop i next) ≤ sum_by f (drop i all) + f c) × (i ≤ length next)
one_put f all c next i l (inl p) = subst (λ xs. (sum_by f (drop i xs) ≤ sum_by f (drop i all) + f c) × (i ≤ length xs)) (sym p.0) (omega arith, l)
one_put f all c next i l (inr p) =
    subst (λ xs. (sum_by f (drop i xs) ≤ sum_by f (drop i all) + f c) × (i ≤ length xs)) (sym p.0)
    (let d = ap (sum_by f) (drop_push all i c l) in let e = sum_by_push f (drop i all) c in omega arith, let k = length-append all (c ∷ []) in omega arith)

-- states that are put weigh no more than they do together
all_put : (f : State → ℕ) (all cs more : List State) (i : ℕ) → i ≤ length all → ArePut all cs more → sum_by f (drop i more) ≤ sum_by f (drop i all) + sum_by f cs
all_put f all [] more i l p = subst (λ xs. sum_by f (drop i xs) ≤ sum_by f (drop i all) + 0) p (omega arith)
all_put f all (c ∷ cs) more i l p =
    let one = one_put f all c p.0 i l p.1 in
    let rest = all_put f p.0 cs more i one.1 p.2 in
    let a = one.0 in
    let e = sum_by-cons f c cs in
    omega arith

drop_here : (xs : List State) (i : ℕ) (x : State) → slice_get xs i ≡ Some x → drop i xs ≡ x ∷ drop (i + 1) xs
drop_here [] i x h = absurd (cc)
drop_here (y ∷ ys) zero x h = let same : y ≡ x = cc in ap (λ z. z ∷ ys) same
drop_here (y ∷ ys) (suc i) x h = rw add-one (rw add-one at (drop_here ys i x h))

positive : (t : Task) (s : State) → 1 ≤ weight t s
positive t s = go (rank t s)
  where
    go : (n : ℕ) → 1 ≤ size t n s
    go zero = omega arith
    go (suc n) = omega arith

pub fewer_wait : WeightsFall → (t : Task) → IsSoundTask t → AreBounded t.mode t.stages → (all : List State) (i : ℕ) (s : State) (stage : Stage) (more : List State)
    → slice_get all i ≡ Some s → slice_get t.stages s.stage ≡ Some stage → i < length all → ArePut all (successors t s stage) more → Visits t all i
    → waiting t more (i + 1) < waiting t all i
unfolding waiting
fewer_wait falls t sound bounded all i s stage more here is_at l p v =
    let w = falls t sound bounded s (v.valid s (get_in all i s here)) stage is_at in
    let a = all_put (weight t) all (successors t s stage) more (i + 1) (omega arith) p in
    let d = ap (sum_by (weight t)) (drop_here all i s here) in
    let e = sum_by-cons (weight t) s (drop (i + 1) all) in
    omega arith

pub passed_waits : (t : Task) (all : List State) (i : ℕ) (s : State) → slice_get all i ≡ Some s → waiting t all (i + 1) < waiting t all i
unfolding waiting
passed_waits t all i s here =
    let d = ap (sum_by (weight t)) (drop_here all i s here) in
    let e = sum_by-cons (weight t) s (drop (i + 1) all) in
    let k = positive t s in
    omega arith
