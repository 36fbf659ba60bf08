-- Different items with different keys among a list cost no more than the items of that list, where each costs no more than its key.
use Rattle.std.proofs.Common.{◌≡◌, ◌≤◌, ◌+◌, ℕ, List, [], ◌∷◌, Contains, ◌⊎◌, inl, inr, refl, arith, ap, sym, ◌∙◌, subst}
use Rattle.std.specs.Prelude.{sum_by}
use Rattle.std.proofs.lemmas.List.Sums.{sum_by-cons}
use Rattle.pg_meaning.specs.Members.{in_nil, in_here, in_there, in_cons}
use Rattle.pg_meaning.specs.Bindings.{Distinct}

-- a list without one of its items
record IsWithout {Y : Type 0} (w : Y → ℕ) (ys : List Y) (y : Y) : Type 0 where
  rest : List Y
  cost : sum_by w ys ≡ w y + sum_by w rest
  stays : (z : Y) → Contains ys z → (z ≡ y) ⊎ Contains rest z

taken_out : {Y : Type 0} (w : Y → ℕ) (ys : List Y) (y : Y) → Contains ys y → IsWithout w ys y
taken_out w [] y c = absurd (in_nil y c)
taken_out w (x ∷ ys) y c = elim (in_cons x ys y c) [
  | inl e ↦ record {
    rest = ys;
    cost = sum_by-cons w x ys ∙ ap (λ n. n + sum_by w ys) (ap w e);
    stays = λ z d. elim (in_cons x ys z d) [ inl s ↦ inl (sym s ∙ e) | inr r ↦ inr r ];
  }
  | inr m ↦ (let o = taken_out w ys y m in record {
    rest = x ∷ o.rest;
    cost = (let a = sum_by-cons w x ys in let b = sum_by-cons w x o.rest in let k = o.cost in omega arith);
    stays = λ z d. elim (in_cons x ys z d) [ inl s ↦ inr (in_here x o.rest z s) | inr r ↦ elim (o.stays z r) [ inl e ↦ inl e | inr q ↦ inr (in_there x o.rest z q) ] ];
  })
]

module _ {X Y : Type 0} (cost : X → ℕ) (key : X → Y) (w : Y → ℕ) (Counts : X → Type 0) (small : (x : X) → Counts x → cost x ≤ w (key x)) (apart : (x z : X) → Counts x → Counts z → key x ≡ key z → x ≡ z) where
  pub counted : (xs : List X) (ys : List Y) → Distinct xs → ((x : X) → Contains xs x → (cost x ≡ 0) ⊎ (Counts x × Contains ys (key x))) → sum_by cost xs ≤ sum_by w ys
  counted [] ys d h = omega arith
  counted (x ∷ xs) ys d h = elim (h x (in_here x xs x refl)) [
    | inl e ↦ (let a = sum_by-cons cost x xs in let b = counted xs ys d.1 (λ z c. h z (in_there x xs z c)) in omega arith)
    | inr p ↦ (
        let o = taken_out w ys (key x) p.1 in
        let a = sum_by-cons cost x xs in
        let s = small x p.0 in
        let k = o.cost in
        let b = counted xs o.rest d.1 (λ z c. elim (h z (in_there x xs z c)) [
          | inl e ↦ inl e
          | inr q ↦ elim (o.stays (key z) q.1) [ inl e ↦ absurd (d.0 (subst (λ u. Contains xs u) (apart z x q.0 p.0 e) c)) | inr r ↦ inr (q.0, r) ]
        ]) in
        omega arith)
  ]
