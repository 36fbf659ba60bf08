-- What is put among others, or taken from them, as a heap does it.
use Rattle.std.proofs.Common.{◌≡◌, ◌≤◌, ◌<◌, ◌+◌, ◌++◌, zero, suc, ℕ, Bool, true, false, List, [], ◌∷◌, map, length, Contains, ◌⊎◌, inl, inr, refl, arith, ap, sym, ◌∙◌, subst}
use Rattle.std.specs.List.Sorted.{IsPermutation}
use Rattle.std.proofs.lemmas.List.Sorted.{Contains-permutation, IsPermutation-sym}
use Rattle.std.specs.Ordering.{nat_cmp, ordering_then, is_lt}
use Rattle.std.specs.declared.cmp.Ordering.{Ordering}
use Rattle.std.specs.declared.cmp.Ordering.TheVariants.{Less, Equal, Greater}
use Rattle.std.specs.declared.cmp.Reverse.{Reverse}
use Rattle.std.specs.List.{AllByRecursion}
use Rattle.std.specs.Prelude.{nat_lt, cond, ◌==◌}
use Rattle.std.proofs.lemmas.Bool.{ltb-false}
use Rattle.pg_meaning.specs.Members.{in_nil, in_here, in_there, in_cons, in_map, from_map}
use Rattle.std.specs.Prelude.{Some, slice_get, get_or, OnOk}
use Rattle.std.specs.declared.result.Result.{Result}
use Rattle.std.specs.declared.result.Result.TheVariants.{Ok, Err}
use Rattle.pg_short.specs.Steps.{Step}
use Rattle.pg_short.specs.Searches.{IsOut, IsMore}

module _ {X : Type 0} (f : X → ℕ × ℕ) where
  pub out_of : (xs ys : List X) (x : X) → IsPermutation xs (x ∷ ys) → IsOut (f x) (map f xs) (map f ys)
  out_of xs ys x p = record {
    own = in_map f xs x (Contains-permutation (x ∷ ys) xs x (IsPermutation-sym xs (x ∷ ys) p) (in_here x ys x refl));
    back = λ e c. let m = from_map f ys e c in subst (λ z. Contains (map f xs) z) m.2 (in_map f xs m.0 (Contains-permutation (x ∷ ys) xs m.0 (IsPermutation-sym xs (x ∷ ys) p) (in_there x ys m.0 m.1)));
    stays = λ e c. let m = from_map f xs e c in elim (in_cons x ys m.0 (Contains-permutation xs (x ∷ ys) m.0 p m.1)) [
      | inl q ↦ inl (ap f q ∙ m.2)
      | inr r ↦ inr (subst (λ z. Contains (map f ys) z) m.2 (in_map f ys m.0 r))
    ];
  }

no_less : (a b : ℕ) (o : Ordering) → is_lt (ordering_then (nat_cmp b a) o) ≡ false → a ≤ b
no_less a b o h = go (nat_lt b a) refl h
  where
    go : (c : Bool) → nat_lt b a ≡ c → is_lt (ordering_then (cond c Less (cond (b == a) Equal Greater)) o) ≡ false → a ≤ b
    go true e k = absurd (cc)
    go false e k = let l = ltb-false b a e in omega arith

pub bound_least : (xs : List (Reverse (ℕ × ℕ))) (x : Reverse (ℕ × ℕ)) → AllByRecursion (λ (y : Reverse (ℕ × ℕ)). is_lt (ordering_then (nat_cmp y.0.0 x.0.0) (nat_cmp y.0.1 x.0.1)) ≡ false) xs
    → (e : ℕ × ℕ) → Contains (map (λ (r : Reverse (ℕ × ℕ)). r.0) xs) e → x.0.0 ≤ e.0
bound_least [] x h e c = absurd (in_nil e c)
bound_least (y ∷ ys) x h e c = elim (in_cons y.0 (map (λ (r : Reverse (ℕ × ℕ)). r.0) ys) e c) [
  | inl q ↦ (let l = no_less x.0.0 y.0.0 (nat_cmp y.0.1 x.0.1) h.0 in let k = ap (λ (z : ℕ × ℕ). z.0) q in omega arith)
  | inr r ↦ bound_least ys x h.1 e r
]

-- STEPS THAT WAIT, ONE MORE

get_old : {X : Type 0} (xs : List X) (x y : X) (k : ℕ) → slice_get xs k ≡ Some y → slice_get (xs ++ x ∷ []) k ≡ Some y
get_old [] x y k h = absurd (cc)
get_old (z ∷ zs) x y zero h = h
get_old (z ∷ zs) x y (suc k) h = get_old zs x y k h

get_last : {X : Type 0} (xs : List X) (x : X) → slice_get (xs ++ x ∷ []) (length xs) ≡ Some x
get_last [] x = refl
get_last (z ∷ zs) x = get_last zs x

from_push : {X : Type 0} (xs : List X) (x y : X) (k : ℕ) → slice_get (xs ++ x ∷ []) k ≡ Some y → (slice_get xs k ≡ Some y) ⊎ ((k ≡ length xs) × (x ≡ y))
from_push [] x y zero h = inr (refl, (let same : x ≡ y = cc in same))
from_push [] x y (suc k) h = absurd (cc)
from_push (z ∷ zs) x y zero h = inl h
from_push (z ∷ zs) x y (suc k) h = elim (from_push zs x y k h) [ inl a ↦ inl a | inr b ↦ inr (ap suc b.0, b.1) ]

pub none_more : (n : ℕ) (queue : List (ℕ × ℕ)) → IsMore n [] queue queue
none_more n queue = record { keeps = λ x c. c; adds = λ k y h. absurd (cc); whence = λ x c. inl c }

pub one_more : (n : ℕ) (new : List Step) (y : Step) (rest queue more : List (ℕ × ℕ)) → IsMore n new rest queue → IsOut (y.long, n + length new) more queue → IsMore n (new ++ y ∷ []) rest more
one_more n new y rest queue more m o = record {
  keeps = λ x c. o.back x (m.keeps x c);
  adds = λ k z h. elim (from_push new y z k h) [
    | inl a ↦ o.back (z.long, n + k) (m.adds k z a)
    | inr b ↦ subst (λ x. Contains more x) (λ i. ((b.1 i).long, n + sym b.0 i)) o.own
  ];
  whence = λ x c. elim (o.stays x c) [
    | inl e ↦ inr (length new, y, get_last new y, e)
    | inr r ↦ elim (m.whence x r) [ inl a ↦ inl a | inr b ↦ inr (b.0, b.1, get_old new y b.1 b.0 b.2, b.3) ]
  ];
}

-- PLACES, AND ANSWERS

pub get_some_or : {X : Type 0} (xs : List X) (k : ℕ) (x : X) → k < length xs → x ≡ get_or xs k x → slice_get xs k ≡ Some x
get_some_or [] k x l e = absurd (omega arith)
get_some_or (y ∷ ys) zero x l e = ap Some (sym e)
get_some_or (y ∷ ys) (suc k) x l e = get_some_or ys k x (omega arith) e

pub both_ok : {A E : Type 0} (r : Result A E) (P Q : Type 0) → OnOk r P → OnOk r Q → OnOk r (P × Q)
both_ok (Ok x) P Q p q = (p, q)
both_ok (Err e) P Q p q = tt
