-- What a set gives that an item is put into.
use Rattle.std.proofs.Common.{◌≡◌, ◌||◌, Bool, true, false, cond, List, [], ◌∷◌, ◌++◌, Contains, inl, inr, ℕ, Some, slice_get, IfOk, OnOk, OnErr, refl, ap, sym, ◌∙◌, subst}
use Rattle.std.specs.List.{list_any}
use Rattle.std.specs.declared.result.Result.{Result}
use Rattle.std.specs.declared.result.Result.TheVariants.{Ok, Err}
use Rattle.indexmap.proofs.CallerLemmas.{Contains-list_any}
use Rattle.pg_meaning.specs.Bindings.{Distinct}
use Rattle.pg_meaning.specs.Members.{in_nil, in_cons, in_one, distinct_append}
use Rattle.pg_value.specs.declared.shape.ElemId.{ElemId}
use Rattle.pg_value.specs.Graph.{same_elem}
use Rattle.pg_value.specs.Hashing.{elem_equivalence}
use Rattle.pg_search.specs.Puts.{IsPut}

module _ {X : Type 0} (eq : X → X → Bool) (same : (a b : X) → eq a b ≡ true → a ≡ b) (self : (a : X) → eq a a ≡ true) where
  any_of : (xs : List X) (x : X) → Contains xs x → list_any (eq x) xs ≡ true
  any_of [] x c = absurd (in_nil x c)
  any_of (y ∷ xs) x c = elim (in_cons y xs x c) [ inl e ↦ here (eq x y) (ap (eq x) e ∙ self x) | inr r ↦ there (eq x y) (any_of xs x r) ]
    where
      here : (b : Bool) → b ≡ true → (b || list_any (eq x) xs) ≡ true
      here true h = refl
      here false h = absurd (cc)

      there : (b : Bool) → list_any (eq x) xs ≡ true → (b || list_any (eq x) xs) ≡ true
      there true h = refl
      there false h = h

  -- an item that is inserted where it is not among the others
  pub put_of : (xs : List X) (x : X) (more : List X) → more ≡ cond (list_any (eq x) xs) xs (xs ++ x ∷ []) → IsPut xs x more
  put_of xs x more h = go (list_any (eq x) xs) refl h
    where
      go : (b : Bool) → list_any (eq x) xs ≡ b → more ≡ cond b xs (xs ++ x ∷ []) → IsPut xs x more
      go true e k = inl (k, Contains-list_any eq same xs x e)
      go false e k = inr (k, λ c. absurd (let z : true ≡ false = sym (any_of xs x c) ∙ e in cc))

  -- and what its number and its place are, where it is not refused
  pub put_when : {T E : Type 0} (xs : List X) (x : X) (more : List X) (r : Result T E) → OnOk r (more ≡ cond (list_any (eq x) xs) xs (xs ++ x ∷ [])) → OnOk r (IsPut xs x more)
  put_when xs x more (Ok y) h = put_of xs x more h
  put_when xs x more (Err e) h = h

  pub place_when : {E : Type 0} (x : X) (more : List X) (r : Result ℕ E) → IfOk r (λ n. (k : X) × (slice_get more n ≡ Some k) × (eq x k ≡ true)) → IfOk r (λ n. slice_get more n ≡ Some x)
  place_when x more (Ok n) h = h.1 ∙ ap Some (sym (same x h.0 h.2))
  place_when x more (Err e) h = h

-- items stay distinct
pub distinct_put : {X : Type 0} (xs : List X) (x : X) (more : List X) → IsPut xs x more → Distinct xs → Distinct more
distinct_put xs x more (inl p) d = subst Distinct (sym p.0) d
distinct_put xs x more (inr p) d = subst Distinct (sym p.0) (distinct_append xs (x ∷ []) d (in_nil x, tt) (λ y a b. p.1 (subst (λ z. Contains xs z) (sym (in_one x y b)) a)))

pub distinct_after : {X T E : Type 0} (xs : List X) (x : X) (more : List X) (r : Result T E) → OnOk r (IsPut xs x more) → OnErr r (more ≡ xs) → Distinct xs → Distinct more
distinct_after xs x more (Ok y) h k d = distinct_put xs x more h d
distinct_after xs x more (Err e) h k d = subst Distinct (sym k) d

pub same_self : (a : ElemId) → same_elem a a ≡ true
same_self a = elem_equivalence.refl a
