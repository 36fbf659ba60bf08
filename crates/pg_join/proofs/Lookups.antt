-- A map whose keys are lists of elements, after an insertion.
use Rattle.std.proofs.Common.{◌≡◌, Bool, true, false, cond, List, [], ◌∷◌, refl, ap, sym, ◌∙◌}
use Rattle.std.specs.Prelude.{Some}
use Rattle.std.specs.Cmp.Lexicographic.{pointwise}
use Rattle.std.specs.Map.{lookup}
use Rattle.indexmap.specs.IndexMap.{insert_entry}
use Rattle.pg_value.specs.declared.shape.ElemId.{ElemId}
use Rattle.pg_value.specs.Graph.{same_elem}
use Rattle.pg_join.proofs.Agreeing.{one_list, self_list}

true_false : true ≡ false → ⊥
true_false h = cc

module _ {K : Type 0} (items : K → List ElemId) where
  abbrev same : K → K → Bool
  same x y = pointwise same_elem (items x) (items y)

  abbrev has : List ElemId → K → Bool
  has ks k = pointwise same_elem ks (items k)

module _ {K X : Type 0} (items : K → List ElemId) where
  pub after_insert : (es : List (K × X)) (key : K) (v : X) (ks : List ElemId) → lookup (has items ks) (insert_entry (same items) es key v) ≡ cond (has items ks key) (Some v) (lookup (has items ks) es)
  after_insert [] key v ks = refl
  after_insert (e ∷ es) key v ks = go (same items key e.0) refl (after_insert es key v ks)
    where
      there : (b : Bool) → has items ks key ≡ b → items key ≡ items e.0 → cond (has items ks e.0) (Some v) (lookup (has items ks) es) ≡ cond b (Some v) (cond (has items ks e.0) (Some e.1) (lookup (has items ks) es))
      there true t s = ap (λ (xs : List ElemId). cond (pointwise same_elem ks xs) (Some v) (lookup (has items ks) es)) (sym s) ∙ ap (λ c. cond c (Some v) (lookup (has items ks) es)) t
      there false t s =
          let u : has items ks e.0 ≡ false = ap (pointwise same_elem ks) (sym s) ∙ t in
          ap (λ c. cond c (Some v) (lookup (has items ks) es)) u ∙ sym (ap (λ c. cond c (Some e.1) (lookup (has items ks) es)) u)

      elsewhere : (a b : Bool) → has items ks e.0 ≡ a → has items ks key ≡ b → same items key e.0 ≡ false → cond a (Some e.1) (cond b (Some v) (lookup (has items ks) es)) ≡ cond b (Some v) (cond a (Some e.1) (lookup (has items ks) es))
      elsewhere true true t u s =
          let p = one_list ks (items e.0) t in
          let q = one_list ks (items key) u in
          absurd (true_false (sym (self_list (items key)) ∙ ap (pointwise same_elem (items key)) (sym q ∙ p) ∙ s))
      elsewhere true false t u s = refl
      elsewhere false true t u s = refl
      elsewhere false false t u s = refl

      go : (b : Bool) → same items key e.0 ≡ b → lookup (has items ks) (insert_entry (same items) es key v) ≡ cond (has items ks key) (Some v) (lookup (has items ks) es)
          → lookup (has items ks) (cond b ((e.0, v) ∷ es) (e ∷ insert_entry (same items) es key v)) ≡ cond (has items ks key) (Some v) (cond (has items ks e.0) (Some e.1) (lookup (has items ks) es))
      go true s r = there (has items ks key) refl (one_list (items key) (items e.0) s)
      go false s r = ap (λ o. cond (has items ks e.0) (Some e.1) o) r ∙ elsewhere (has items ks e.0) (has items ks key) refl refl s
