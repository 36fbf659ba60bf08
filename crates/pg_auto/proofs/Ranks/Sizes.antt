-- Lists without doubles are no longer than what they are of, and a state weighs more than those that follow it.
use Rattle.std.proofs.Common.{◌≡◌, ℕ, ◌<◌, ◌≤◌, zero, suc, List, [], ◌∷◌, length, Contains, inl, inr, refl, arith, ap, sym, ◌∙◌, subst}
use Rattle.std.specs.Prelude.{sum_by}
use Rattle.std.proofs.lemmas.List.Sums.{sum_by-cons}
use Rattle.pg_meaning.specs.Bindings.{Distinct}
use Rattle.pg_meaning.specs.Members.{in_nil, in_here, in_there, in_cons}
use Rattle.pg_auto.specs.States.{Task, State}
use Rattle.pg_auto.specs.Successors.{next_states}
use Rattle.pg_auto.specs.Ranks.{size}

-- LISTS WITHOUT DOUBLES

-- what is left of a list without one of its items
record Without {X : Type 0} (x : X) (ys : List X) : Type 0 where
  rest : List X
  shorter : length ys ≡ suc (length rest)
  kept : (z : X) → Contains ys z → (z ≡ x → ⊥) → Contains rest z

without : {X : Type 0} (x : X) (ys : List X) → Contains ys x → Without x ys
without x [] c = absurd (in_nil x c)
without x (y ∷ ys) c = elim (in_cons y ys x c) [
  | inl e ↦ record { rest = ys; shorter = refl; kept = λ z d ne. elim (in_cons y ys z d) [ inl q ↦ absurd (ne (sym q ∙ e)) | inr r ↦ r ] }
  | inr r ↦ (let w = without x ys r in record {
    rest = y ∷ w.rest;
    shorter = ap suc w.shorter;
    kept = λ z d ne. elim (in_cons y ys z d) [ inl q ↦ in_here y w.rest z q | inr k ↦ in_there y w.rest z (w.kept z k ne) ];
  })
]

-- a list without doubles, each of whose items is of another list, is no longer than that
pub no_more : {X : Type 0} (xs ys : List X) → Distinct xs → ((x : X) → Contains xs x → Contains ys x) → length xs ≤ length ys
no_more [] ys d h = omega arith
no_more (x ∷ xs) ys d h =
    let w = without x ys (h x (in_here x xs x refl)) in
    let r = no_more xs w.rest d.1 (λ z c. w.kept z (h z (in_there x xs z c)) (λ e. d.0 (subst (λ u. Contains xs u) e c))) in
    let s = w.shorter in
    omega arith

-- SUMS

sum_le : {X : Type 0} (f g : X → ℕ) (xs : List X) → ((x : X) → Contains xs x → f x ≤ g x) → sum_by f xs ≤ sum_by g xs
sum_le f g [] h = omega arith
sum_le f g (x ∷ xs) h =
    let a = h x (in_here x xs x refl) in
    let b = sum_le f g xs (λ y c. h y (in_there x xs y c)) in
    let p = sum_by-cons f x xs in
    let q = sum_by-cons g x xs in
    omega arith

sum_none : {X : Type 0} (f : X → ℕ) (xs : List X) → ((x : X) → Contains xs x → ⊥) → sum_by f xs ≡ 0
sum_none f [] h = refl
sum_none f (x ∷ xs) h = absurd (h x (in_here x xs x refl))

-- THE MEASURE

positive : (t : Task) (n : ℕ) (s : State) → 1 ≤ size t n s
positive t zero s = omega arith
positive t (suc n) s = omega arith

monotone : (t : Task) (m n : ℕ) (s : State) → m ≤ n → size t m s ≤ size t n s
monotone t zero n s h = positive t n s
monotone t (suc m) zero s h = absurd (omega arith)
monotone t (suc m) (suc n) s h = let k = sum_le (size t m) (size t n) (next_states t s) (λ c i. monotone t m n c (omega arith)) in omega arith

-- a state weighs more than those that follow it together, by any rank that falls
pub smaller : (t : Task) (rank : State → ℕ) (s : State) → ((c : State) → Contains (next_states t s) c → rank c < rank s)
    → sum_by (λ c. size t (rank c) c) (next_states t s) < size t (rank s) s
smaller t rank s h = go (rank s) refl
  where
    go : (n : ℕ) → rank s ≡ n → sum_by (λ c. size t (rank c) c) (next_states t s) < size t n s
    go zero e = let k = sum_none (λ c. size t (rank c) c) (next_states t s) (λ c i. let l = h c i in omega arith) in omega arith
    go (suc n) e = let k = sum_le (λ c. size t (rank c) c) (size t n) (next_states t s) (λ c i. let l = h c i in monotone t (rank c) n c (omega arith)) in omega arith
