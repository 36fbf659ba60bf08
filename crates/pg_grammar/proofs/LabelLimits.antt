-- A label expression keeps its limits.
use Rattle.std.proofs.Common.{◌≡◌, ℕ, zero, suc, ◌+◌, ◌-◌, ◌<◌, ◌≤◌, refl, ap, ◌∙◌, arith, inl, inr}
use Rattle.std.proofs.lemmas.Bool.{ltb-true}
use Rattle.pg_ast.specs.declared.counted.CountedLabel.{CountedLabel}
use Rattle.pg_ast.specs.declared.pattern.LabelExpr.{LabelExpr}
use Rattle.pg_ast.specs.Words.Terminals.{Tokens}
use Rattle.pg_ast.specs.Grammar.Rule.{Rule, times, only}
use Rattle.pg_ast.specs.Grammar.Counting.{allows}
use Rattle.pg_ast.specs.Grammar.Labels as grammar
use Rattle.pg_ast.specs.Trees.{label_tree, tree_not, tree_and, tree_or}
use Rattle.pg_ast.specs.Grammar.Limits.{label_operators, AtMostOpen}
use Rattle.pg_ast.specs.Words.Names as word
use Rattle.pg_grammar.proofs.Nesting.{Nests, nests-give, nests-the, nests-then, nests-or, nests-only, nests-repeat, nests-paren, nests-name}

-- PARENTHESES

nests-base : (d k : ℕ) → Nests d (grammar.base k)
nests-base d k = nests-or d (nests-then d (nests-the d word.percent refl) (λ _. nests-give d _)) (nests-then d (nests-name d) (λ n. nests-give d _))

module _ (P : ℕ → Rule CountedLabel) (d : ℕ) (h : (k : ℕ) → Nests d (P k)) where
  nests-complement : (k : ℕ) → Nests d (grammar.complement P k)
  nests-complement zero = h zero
  nests-complement (suc k) = nests-or d (nests-then d (nests-the d word.exclaim refl) (λ _. nests-then d (nests-complement k) (λ x. nests-give d _))) (h (suc k))

  nests-intersection : (k : ℕ) → Nests d (grammar.intersection P k)
  nests-intersection k =
      nests-then d (nests-complement k) (λ x. nests-repeat _ d (λ y. nests-only d (allows y.left)
      (nests-then d (nests-the d word.ampersand refl) (λ _. nests-then d (nests-complement (y.left - 1)) (λ z. nests-give d _)))) x)

  nests-union : (k : ℕ) → Nests d (grammar.union P k)
  nests-union k =
      nests-then d (nests-intersection k) (λ x. nests-repeat _ d (λ y. nests-only d (allows y.left)
      (nests-then d (nests-the d word.bar refl) (λ _. nests-then d (nests-intersection (y.left - 1)) (λ z. nests-give d _)))) x)

nests-primary : (depth k : ℕ) → Nests depth (grammar.primary depth k)
unfolding grammar.primary
nests-primary zero k = nests-base zero k
nests-primary (suc depth) k = nests-or (suc depth) (nests-paren (λ x. x) depth (nests-union (grammar.primary depth) depth (nests-primary depth) k)) (nests-base (suc depth) k)

pub labels-nest : (x : LabelExpr) (ts : Tokens) → grammar.labels x ts → AtMostOpen 64 ts
labels-nest x ts h = (nests-then 64 (nests-union (grammar.primary 64) 64 (nests-primary 64) 255) (λ y. nests-give 64 y.label) x ts h).within

-- OPERATORS

-- how many operators were allowed at first
abbrev budget : CountedLabel → ℕ
budget x = x.left + label_operators (label_tree x.label)

budget-base : (k : ℕ) (x : CountedLabel) (u : Tokens) → grammar.base k x u → budget x ≡ k
budget-base k x u (inl r) = ap budget r.goes_on.0 ∙ omega arith
budget-base k x u (inr r) = ap budget r.goes_on.0 ∙ omega arith

budget-times : (S : CountedLabel → Rule CountedLabel) → ((x y : CountedLabel) (u : Tokens) → S x y u → budget y ≡ budget x) → (n : ℕ) (x y : CountedLabel) (u : Tokens) → times n S x y u → budget y ≡ budget x
budget-times S s zero x y u r = ap budget r.0
budget-times S s (suc n) x y u r = budget-times S s n r.first y r.back r.goes_on ∙ s x r.first r.front r.begins

module _ (P : ℕ → Rule CountedLabel) (h : (k : ℕ) (x : CountedLabel) (u : Tokens) → P k x u → budget x ≡ k) where
  budget-complement : (k : ℕ) (x : CountedLabel) (u : Tokens) → grammar.complement P k x u → budget x ≡ k
  budget-complement zero x u r = h zero x u r
  budget-complement (suc k) x u (inl r) =
      let i = r.goes_on in
      let n = budget-complement k i.first i.front i.begins in
      let o = ap label_operators (tree_not i.first.label) in
      ap budget i.goes_on.0 ∙ omega (arith, n, o)
  budget-complement (suc k) x u (inr r) = h (suc k) x u r

  budget-next-complement : (x y : CountedLabel) (u : Tokens) → only (allows x.left) (grammar.next_complement P x) y u → budget y ≡ budget x
  budget-next-complement x y u r =
      let some : 0 < x.left = ltb-true 0 x.left r.0 in
      let i = r.1.goes_on in
      let n = budget-complement (x.left - 1) i.first i.front i.begins in
      let o = ap label_operators (tree_and x.label i.first.label) in
      ap budget i.goes_on.0 ∙ omega (arith, n, o, some)

  budget-intersection : (k : ℕ) (x : CountedLabel) (u : Tokens) → grammar.intersection P k x u → budget x ≡ k
  budget-intersection k x u r = budget-times _ budget-next-complement r.goes_on.0 r.first x r.back r.goes_on.1 ∙ budget-complement k r.first r.front r.begins

  budget-next-intersection : (x y : CountedLabel) (u : Tokens) → only (allows x.left) (grammar.next_intersection P x) y u → budget y ≡ budget x
  budget-next-intersection x y u r =
      let some : 0 < x.left = ltb-true 0 x.left r.0 in
      let i = r.1.goes_on in
      let n = budget-intersection (x.left - 1) i.first i.front i.begins in
      let o = ap label_operators (tree_or x.label i.first.label) in
      ap budget i.goes_on.0 ∙ omega (arith, n, o, some)

  budget-union : (k : ℕ) (x : CountedLabel) (u : Tokens) → grammar.union P k x u → budget x ≡ k
  budget-union k x u r = budget-times _ budget-next-intersection r.goes_on.0 r.first x r.back r.goes_on.1 ∙ budget-intersection k r.first r.front r.begins

budget-primary : (depth k : ℕ) (x : CountedLabel) (u : Tokens) → grammar.primary depth k x u → budget x ≡ k
unfolding grammar.primary
budget-primary zero k x u r = budget-base k x u r
budget-primary (suc depth) k x u (inl r) =
    let i = r.goes_on in
    ap budget i.goes_on.goes_on.0 ∙ budget-union (grammar.primary depth) (budget-primary depth) k i.first i.front i.begins
budget-primary (suc depth) k x u (inr r) = budget-base k x u r

pub labels-count : (x : LabelExpr) (ts : Tokens) → grammar.labels x ts → label_operators (label_tree x) ≤ 255
labels-count x ts h =
    let n = budget-union (grammar.primary 64) (budget-primary 64) 255 h.first h.front h.begins in
    let e = ap (λ (l : LabelExpr). label_operators (label_tree l)) h.goes_on.0 in
    omega (arith, n, e)
