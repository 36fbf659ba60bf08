-- An expression keeps its limits: operators.
use Rattle.std.proofs.Common.{◌≡◌, ℕ, zero, suc, ◌+◌, ◌-◌, ◌^◌, ◌<◌, ◌≤◌, Bool, true, false, refl, ap, ◌∙◌, arith, inl, inr}
use Rattle.std.specs.Prelude.{nat_lt}
use Rattle.std.proofs.lemmas.Bool.{ltb-true}
use Rattle.pg_ast.specs.declared.expr.Expr.{Expr}
use Rattle.pg_ast.specs.declared.expr.Whole.{Whole}
use Rattle.pg_ast.specs.declared.expr.Agg.{Agg}
use Rattle.pg_ast.specs.declared.expr.Agg.TheVariants as agg
use Rattle.pg_ast.specs.declared.expr.UnOp.TheVariants as un
use Rattle.pg_ast.specs.declared.counted.Scope.{Scope}
use Rattle.pg_ast.specs.declared.counted.Scope.TheVariants.{Insert, Change, Query}
use Rattle.pg_ast.specs.declared.counted.Operator.{Operator}
use Rattle.pg_ast.specs.declared.counted.AggWord.{AggWord}
use Rattle.pg_ast.specs.declared.counted.CountedExpr.{CountedExpr}
use Rattle.pg_ast.specs.declared.expr.Expr.TheVariants as expr
use Rattle.pg_ast.specs.Words.Terminals.{Tokens, text_of}
use Rattle.pg_ast.specs.Grammar.Rule.{Rule, ◌>>=◌, give, times, only}
use Rattle.pg_ast.specs.Grammar.Counting.{allows}
use Rattle.pg_ast.specs.Grammar.Exprs as grammar
use Rattle.pg_ast.specs.Grammar.Exprs.{number_literal, literal_of, number_after}
use Rattle.pg_ast.specs.Trees.{tree_of, tree_unary, tree_binary, tree_agg}
use Rattle.pg_ast.specs.Grammar.Limits.{operators}

-- how many operators were allowed at first
abbrev budget : CountedExpr → ℕ
budget x = x.left + operators (tree_of x.expr)

abbrev Within : ℕ → Rule CountedExpr → Type 0
Within k P = (x : CountedExpr) (u : Tokens) → P x u → budget x ≡ k

-- WHAT HAS NO OPERATOR

literal-of : (n at : ℕ) → operators (tree_of (literal_of n at)) ≡ 0
literal-of n at = by (nat_lt n (2 ^ 127)) refl where
  by : (b : Bool) → nat_lt n (2 ^ 127) ≡ b → operators (tree_of (literal_of n at)) ≡ 0
  by true e = rw e refl
  by false e = rw e refl

literal-none : (e : Expr) (u : Tokens) → grammar.literal e u → operators (tree_of e) ≡ 0
unfolding number_literal
literal-none e u (inl r) = ap (λ (x : Expr). operators (tree_of x)) r.goes_on.0 ∙ literal-of (number_after 0 (text_of r.first)) r.first.from
literal-none e u (inr (inl r)) = ap (λ (x : Expr). operators (tree_of x)) r.goes_on.0
literal-none e u (inr (inr (inl r))) = ap (λ (x : Expr). operators (tree_of x)) r.goes_on.0
literal-none e u (inr (inr (inr (inl r)))) = ap (λ (x : Expr). operators (tree_of x)) r.goes_on.0
literal-none e u (inr (inr (inr (inr r)))) = ap (λ (x : Expr). operators (tree_of x)) r.goes_on.0

within-literal : (k : ℕ) → Within k (grammar.literal >>= λ e. give (grammar.counted e k))
within-literal k x u r = let n = literal-none r.first r.front r.begins in ap budget r.goes_on.0 ∙ omega (arith, n)

within-base : (s : Scope) (k : ℕ) → Within k (grammar.base s k)
within-base Insert k x u r = within-literal k x u r
within-base Change k x u (inl r) = let n = ap (λ (e : Expr). operators (tree_of e)) r.begins.goes_on.0 in ap budget r.goes_on.0 ∙ omega (arith, n)
within-base Change k x u (inr r) = within-literal k x u r
within-base Query k x u (inl r) = let n = ap (λ (e : Expr). operators (tree_of e)) r.begins.goes_on.goes_on.goes_on.0 in ap budget r.goes_on.0 ∙ omega (arith, n)
within-base Query k x u (inr r) = within-literal k x u r

-- AN OPERATOR BETWEEN TWO OPERANDS, AND TURNS

within-step : (O : Rule Operator) (L : ℕ → Rule CountedExpr) → ((k : ℕ) → Within k (L k)) → (x : CountedExpr) →
    Within (budget x) (only (allows x.left) (O >>= λ o. L (x.left - 1) >>= λ y. give (grammar.counted (expr.Binary o.op x.expr y.expr o.at) y.left)))
within-step O L l x y u r =
    let some : 0 < x.left = ltb-true 0 x.left r.0 in
    let i = r.1.goes_on in
    let n = l (x.left - 1) i.first i.front i.begins in
    let o = ap operators (tree_binary r.1.first.op x.expr i.first.expr r.1.first.at) in
    ap budget i.goes_on.0 ∙ omega (arith, n, o, some)

within-times : (S : CountedExpr → Rule CountedExpr) → ((x : CountedExpr) → Within (budget x) (S x)) → (n : ℕ) (x : CountedExpr) → Within (budget x) (times n S x)
within-times S s zero x y u r = ap budget r.0
within-times S s (suc n) x y u r = within-times S s n r.first y r.back r.goes_on ∙ s x r.first r.front r.begins

module _ (P : ℕ → Rule CountedExpr) (h : (k : ℕ) → Within k (P k)) where
  within-unary : (k : ℕ) → Within k (grammar.unary P k)
  within-unary zero x u r = h zero x u r
  within-unary (suc k) x u (inl r) =
      let i = r.goes_on in
      let n = within-unary k i.first i.front i.begins in
      let o = ap operators (tree_unary un.Minus i.first.expr r.first.from) in
      ap budget i.goes_on.0 ∙ omega (arith, n, o)
  within-unary (suc k) x u (inr r) = h (suc k) x u r

  within-prod : (k : ℕ) → Within k (grammar.prod P k)
  within-prod k x u r = within-times _ (within-step _ (grammar.unary P) within-unary) r.goes_on.0 r.first x r.back r.goes_on.1 ∙ within-unary k r.first r.front r.begins

  within-sum : (k : ℕ) → Within k (grammar.sum P k)
  within-sum k x u r = within-times _ (within-step _ (grammar.prod P) within-prod) r.goes_on.0 r.first x r.back r.goes_on.1 ∙ within-prod k r.first r.front r.begins

  within-null-test : (x : CountedExpr) → Within (budget x) (only (allows x.left) (grammar.null_test x))
  within-null-test x y u (some, r) =
      let l : 0 < x.left = ltb-true 0 x.left some in
      elim r.goes_on [
        | inl k ↦
            let o = ap operators (tree_unary un.IsNotNull x.expr r.first.from) in
            ap budget k.goes_on.goes_on.0 ∙ omega (arith, o, l)
        | inr k ↦
            let o = ap operators (tree_unary un.IsNull x.expr r.first.from) in
            ap budget k.goes_on.0 ∙ omega (arith, o, l)
      ]

  within-test : (k : ℕ) → Within k (grammar.test P k)
  within-test k x u r =
      elim r.goes_on [
        | inl c ↦ within-step _ (grammar.sum P) within-sum r.first x r.back c
        | inr o ↦ elim o [ inl c ↦ within-null-test r.first x r.back c | inr c ↦ ap budget c.0 ]
      ]
      ∙ within-sum k r.first r.front r.begins

  within-neg : (k : ℕ) → Within k (grammar.neg P k)
  within-neg zero x u r = within-test zero x u r
  within-neg (suc k) x u (inl r) =
      let i = r.goes_on in
      let n = within-neg k i.first i.front i.begins in
      let o = ap operators (tree_unary un.Not i.first.expr r.first.from) in
      ap budget i.goes_on.0 ∙ omega (arith, n, o)
  within-neg (suc k) x u (inr r) = within-test (suc k) x u r

  within-conj : (k : ℕ) → Within k (grammar.conj P k)
  within-conj k x u r = within-times _ (within-step _ (grammar.neg P) within-neg) r.goes_on.0 r.first x r.back r.goes_on.1 ∙ within-neg k r.first r.front r.begins

  within-any-of : (k : ℕ) → Within k (grammar.any_of P k)
  within-any-of k x u r = within-times _ (within-step _ (grammar.conj P) within-conj) r.goes_on.0 r.first x r.back r.goes_on.1 ∙ within-conj k r.first r.front r.begins

  within-paren : (k : ℕ) → Within k (grammar.paren P k)
  within-paren k x u r = let i = r.goes_on in ap budget i.goes_on.goes_on.0 ∙ within-any-of k i.first i.front i.begins

  within-of-expr : (a : AggWord) (k : ℕ) → Within (k + 1) (grammar.of_expr P a k)
  within-of-expr a k x u r =
      let n = within-any-of k r.first r.front r.begins in
      let o = ap operators (tree_agg a.agg r.first.expr a.at) in
      ap budget r.goes_on.goes_on.0 ∙ omega (arith, n, o)

  within-argument : (g : Agg) (a : AggWord) (k : ℕ) → Within (k + 1) (grammar.argument P g a k)
  within-argument agg.Count a k x u (inl r) = ap budget r.goes_on.goes_on.0
  within-argument agg.Count a k x u (inr r) = within-of-expr a k x u r
  within-argument agg.Sum a k x u r = within-of-expr a k x u r
  within-argument agg.Min a k x u r = within-of-expr a k x u r
  within-argument agg.Max a k x u r = within-of-expr a k x u r

  within-aggregate : (k : ℕ) → Within k (only (allows k) (grammar.aggregate P k))
  within-aggregate k x u (some, r) =
      let l : 0 < k = ltb-true 0 k some in
      let n = within-argument r.first.agg r.first (k - 1) x r.goes_on.back r.goes_on.goes_on in
      omega (arith, n, l)

within-primary : (s : Scope) (depth k : ℕ) → Within k (grammar.primary s depth k)
unfolding grammar.primary
within-primary s zero k x u r = within-base s k x u r
within-primary Insert (suc depth) k x u (inl r) = within-paren (grammar.primary Insert depth) (within-primary Insert depth) k x u r
within-primary Insert (suc depth) k x u (inr r) = within-base Insert k x u r
within-primary Change (suc depth) k x u (inl r) = within-paren (grammar.primary Change depth) (within-primary Change depth) k x u r
within-primary Change (suc depth) k x u (inr r) = within-base Change k x u r
within-primary Query (suc depth) k x u (inl r) = within-paren (grammar.primary Query depth) (within-primary Query depth) k x u r
within-primary Query (suc depth) k x u (inr (inl r)) = within-aggregate (grammar.primary Query depth) (within-primary Query depth) k x u r
within-primary Query (suc depth) k x u (inr (inr r)) = within-base Query k x u r

pub whole-counts : (s : Scope) (x : Whole) (ts : Tokens) → grammar.whole s x ts → operators (tree_of x.expr) ≤ 255
whole-counts s x ts h =
    let c = h.begins in
    let n = within-any-of (grammar.primary s 64) (within-primary s 64) 255 c.first.0 c.front c.begins.0 in
    let e = ap (λ (w : Whole). operators (tree_of w.expr)) h.goes_on.0 in
    let f = ap (λ (w : Whole). operators (tree_of w.expr)) (ap (λ w. w.whole) c.goes_on.0) in
    omega (arith, n, e, f)
