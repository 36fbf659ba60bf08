-- A list in order of keys after one item was put in or replaced where its key was sought.
use Rattle.std.proofs.Common.{ℕ, ◌≡◌, List, [], ◌∷◌, ap, sym, subst, ◌∙◌}
use Rattle.std.specs.Prelude.{slice_set, Result, Ok, Err, OnOk, OnErr}
use Rattle.std.specs.List.{insert}
use Rattle.std.specs.declared.cmp.Ordering.{Ordering}
use Rattle.pg_keyed.specs.Keyed.{Ascends, Sought, merge}
use Rattle.pg_keyed.specs.Orders.{Exact}
use Rattle.pg_keyed.specs.Puts.{merge_ascends}
use Rattle.pg_keyed.specs.Searches.{sought_replaces, sought_adds}

module _ {X K : Type 0} (key : X → K) (cmp : K → K → Ordering) (o : Exact cmp) where
  one_ascends : (xs : List X) (w : X) → Ascends key cmp xs → Ascends key cmp (merge key cmp xs (w ∷ []))
  one_ascends xs w a = merge_ascends key cmp o xs (w ∷ []) a (tt, tt)

  pub set_ascends : (xs ys zs : List X) (w : X) (i : ℕ) → xs ≡ ys → Ascends key cmp xs → Sought key cmp (key w) ys (Ok i) → zs ≡ slice_set xs i w → Ascends key cmp zs
  set_ascends xs ys zs w i e a s z =
      let t = subst (λ vs. Sought key cmp (key w) vs (Ok i)) (sym e) s in
      subst (λ vs. Ascends key cmp vs) (sought_replaces key cmp o xs w i a t ∙ sym z) (one_ascends xs w a)

  pub set_is : (xs ys zs : List X) (w : X) (i : ℕ) → xs ≡ ys → Ascends key cmp xs → Sought key cmp (key w) ys (Ok i) → zs ≡ slice_set xs i w → zs ≡ merge key cmp ys (w ∷ [])
  set_is xs ys zs w i e a s z =
      let t = subst (λ vs. Sought key cmp (key w) vs (Ok i)) (sym e) s in
      z ∙ sym (sought_replaces key cmp o xs w i a t) ∙ ap (λ vs. merge key cmp vs (w ∷ [])) e

  pub add_ascends : {A B : Type 0} (r : Result A B) (xs ys zs : List X) (w : X) (i : ℕ) → xs ≡ ys → Ascends key cmp xs → Sought key cmp (key w) ys (Err i) → OnOk r (zs ≡ insert xs i w) → OnErr r (zs ≡ xs) → Ascends key cmp zs
  add_ascends (Ok u) xs ys zs w i e a s z n =
      let t = subst (λ vs. Sought key cmp (key w) vs (Err i)) (sym e) s in
      subst (λ vs. Ascends key cmp vs) (sought_adds key cmp o xs w i a t ∙ sym z) (one_ascends xs w a)
  add_ascends (Err u) xs ys zs w i e a s z n = subst (λ vs. Ascends key cmp vs) (sym n) a

  pub add_is : {A B : Type 0} (r : Result A B) (xs ys zs : List X) (w : X) (i : ℕ) → xs ≡ ys → Ascends key cmp xs → Sought key cmp (key w) ys (Err i) → OnOk r (zs ≡ insert xs i w) → OnOk r (zs ≡ merge key cmp ys (w ∷ []))
  add_is (Ok u) xs ys zs w i e a s z =
      let t = subst (λ vs. Sought key cmp (key w) vs (Err i)) (sym e) s in
      z ∙ sym (sought_adds key cmp o xs w i a t) ∙ ap (λ vs. merge key cmp vs (w ∷ [])) e
  add_is (Err u) xs ys zs w i e a s z = tt
