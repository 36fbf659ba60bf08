-- An expression keeps its limits: parentheses.
use Rattle.std.proofs.Common.{◌≡◌, ℕ, zero, suc, ◌-◌, true, [], ◌∷◌, refl, inl, inr}
use Rattle.pg_ast.specs.declared.expr.Expr.TheVariants as expr
use Rattle.pg_ast.specs.declared.expr.Whole.{Whole}
use Rattle.pg_ast.specs.declared.expr.Agg.{Agg}
use Rattle.pg_ast.specs.declared.expr.Agg.TheVariants as agg
use Rattle.pg_ast.specs.declared.expr.BinOp.{BinOp}
use Rattle.pg_ast.specs.declared.counted.Scope.{Scope}
use Rattle.pg_ast.specs.declared.counted.Scope.TheVariants.{Insert, Change, Query}
use Rattle.pg_ast.specs.declared.counted.AggWord.{AggWord}
use Rattle.pg_ast.specs.declared.counted.CountedExpr.{CountedExpr}
use Rattle.pg_ast.specs.Words.Terminals.{Terminal, Tokens, ANumber, AText}
use Rattle.pg_ast.specs.Grammar.Rule.{Rule, the, ◌>>=◌, at_first}
use Rattle.pg_ast.specs.Grammar.Counting.{allows}
use Rattle.pg_ast.specs.Grammar.Exprs as grammar
use Rattle.pg_ast.specs.Grammar.Limits.{AtMostOpen}
use Rattle.pg_ast.specs.Words.Exprs as word
use Rattle.pg_grammar.specs.Kit.Optional.{factored}
use Rattle.pg_grammar.specs.Kit.Sets.{disjoint}
use Rattle.pg_grammar.proofs.Nesting.{Nests, nests-give, nests-the, nests-then, nests-or, nests-only, nests-repeat, nests-paren, nests-name}

nests-literal : (d : ℕ) → Nests d grammar.literal
nests-literal d =
    nests-or d (nests-then d (nests-the d ANumber refl) (λ t. nests-give d _))
    (nests-or d (nests-then d (nests-the d AText refl) (λ t. nests-give d _))
    (nests-or d (nests-then d (nests-the d word.true_word refl) (λ t. nests-give d _))
    (nests-or d (nests-then d (nests-the d word.false_word refl) (λ t. nests-give d _))
    (nests-then d (nests-the d word.null refl) (λ t. nests-give d _)))))

nests-base : (d : ℕ) (s : Scope) (k : ℕ) → Nests d (grammar.base s k)
nests-base d Insert k = nests-then d (nests-literal d) (λ e. nests-give d _)
nests-base d Change k = nests-or d (nests-then d (nests-then d (nests-name d) (λ n. nests-give d _)) (λ e. nests-give d _)) (nests-then d (nests-literal d) (λ e. nests-give d _))
nests-base d Query k =
    nests-or d
    (nests-then d (nests-then d (nests-name d) (λ v. nests-then d (nests-the d word.dot refl) (λ _. nests-then d (nests-name d) (λ n. nests-give d _)))) (λ e. nests-give d _))
    (nests-then d (nests-literal d) (λ e. nests-give d _))

nests-operator : (d : ℕ) (p : Terminal) (op : BinOp) → disjoint (p ∷ []) (word.opening ∷ word.close ∷ []) ≡ true → Nests d (grammar.operator p op)
nests-operator d p op e = nests-then d (nests-the d p e) (λ t. nests-give d _)

nests-comparison : (d : ℕ) → Nests d grammar.comparison
nests-comparison d =
    nests-or d (nests-operator d word.equals _ refl)
    (nests-or d (nests-operator d word.unequal _ refl)
    (nests-or d (nests-operator d word.less _ refl)
    (nests-or d (nests-operator d word.at_most _ refl)
    (nests-or d (nests-operator d word.greater _ refl) (nests-operator d word.at_least _ refl)))))

nests-agg-word : (d : ℕ) → Nests d grammar.agg_word
nests-agg-word d =
    nests-or d (nests-then d (nests-the d word.count refl) (λ t. nests-give d _))
    (nests-or d (nests-then d (nests-the d word.sum_word refl) (λ t. nests-give d _))
    (nests-or d (nests-then d (nests-the d word.min_word refl) (λ t. nests-give d _))
    (nests-then d (nests-the d word.max_word refl) (λ t. nests-give d _))))

nests-null-test : (d : ℕ) (x : CountedExpr) → Nests d (grammar.null_test x)
nests-null-test d x =
    nests-then d (nests-the d word.is_word refl) (λ t.
    nests-or d
    (nests-then d (nests-the d word.not_word refl) (λ _. nests-then d (nests-the d word.null refl) (λ _. nests-give d _)))
    (nests-then d (nests-the d word.null refl) (λ _. nests-give d _)))

module _ (P : ℕ → Rule CountedExpr) (d : ℕ) (h : (k : ℕ) → Nests d (P k)) where
  nests-unary : (k : ℕ) → Nests d (grammar.unary P k)
  nests-unary zero = h zero
  nests-unary (suc k) = nests-or d (nests-then d (nests-the d word.minus refl) (λ t. nests-then d (nests-unary k) (λ x. nests-give d _))) (h (suc k))

  nests-prod : (k : ℕ) → Nests d (grammar.prod P k)
  nests-prod k =
      nests-then d (nests-unary k) (λ x. nests-repeat _ d (λ y. nests-only d (allows y.left)
      (nests-then d (nests-operator d word.star _ refl) (λ o. nests-then d (nests-unary (y.left - 1)) (λ z. nests-give d _)))) x)

  nests-sum : (k : ℕ) → Nests d (grammar.sum P k)
  nests-sum k =
      nests-then d (nests-prod k) (λ x. nests-repeat _ d (λ y. nests-only d (allows y.left)
      (nests-then d (nests-or d (nests-operator d word.plus _ refl) (nests-operator d word.minus _ refl)) (λ o. nests-then d (nests-prod (y.left - 1)) (λ z. nests-give d _)))) x)

  nests-test : (k : ℕ) → Nests d (grammar.test P k)
  nests-test k =
      nests-then d (nests-sum k) (λ x.
      nests-or d (nests-only d (allows x.left) (nests-then d (nests-comparison d) (λ o. nests-then d (nests-sum (x.left - 1)) (λ y. nests-give d _))))
      (nests-or d (nests-only d (allows x.left) (nests-null-test d x)) (nests-give d x)))

  nests-neg : (k : ℕ) → Nests d (grammar.neg P k)
  nests-neg zero = nests-test zero
  nests-neg (suc k) = nests-or d (nests-then d (nests-the d word.not_word refl) (λ t. nests-then d (nests-neg k) (λ x. nests-give d _))) (nests-test (suc k))

  nests-conj : (k : ℕ) → Nests d (grammar.conj P k)
  nests-conj k =
      nests-then d (nests-neg k) (λ x. nests-repeat _ d (λ y. nests-only d (allows y.left)
      (nests-then d (nests-operator d word.and_word _ refl) (λ o. nests-then d (nests-neg (y.left - 1)) (λ z. nests-give d _)))) x)

  nests-any-of : (k : ℕ) → Nests d (grammar.any_of P k)
  nests-any-of k =
      nests-then d (nests-conj k) (λ x. nests-repeat _ d (λ y. nests-only d (allows y.left)
      (nests-then d (nests-operator d word.or_word _ refl) (λ o. nests-then d (nests-conj (y.left - 1)) (λ z. nests-give d _)))) x)

  nests-of-expr : (a : AggWord) (k : ℕ) → Nests (suc d) (the word.opening >>= λ _. grammar.of_expr P a k)
  nests-of-expr a k = nests-paren (λ (x : CountedExpr). grammar.counted (expr.Agg a.agg x.expr a.at) x.left) d (nests-any-of k)

  nests-argument : (g : Agg) (a : AggWord) (k : ℕ) → Nests (suc d) (the word.opening >>= λ _. grammar.argument P g a k)
  nests-argument agg.Count a k t u r = elim (factored (the word.opening) (λ _. grammar.of_variable a k) (λ _. grammar.of_expr P a k) t u r) [
    | inl v ↦ nests-paren (λ v. grammar.counted (expr.CountVar v a.at) k) d (nests-name d) t u v
    | inr x ↦ nests-of-expr a k t u x
  ]
  nests-argument agg.Sum a k t u r = nests-of-expr a k t u r
  nests-argument agg.Min a k t u r = nests-of-expr a k t u r
  nests-argument agg.Max a k t u r = nests-of-expr a k t u r

  nests-aggregate : (k : ℕ) → Nests (suc d) (grammar.aggregate P k)
  nests-aggregate k = nests-then (suc d) (nests-agg-word (suc d)) (λ a. nests-argument a.agg a (k - 1))

  nests-between : (k : ℕ) → Nests (suc d) (grammar.paren P k)
  nests-between k = nests-paren (λ (x : CountedExpr). grammar.counted x.expr x.left) d (nests-any-of k)

nests-primary : (s : Scope) (depth k : ℕ) → Nests depth (grammar.primary s depth k)
unfolding grammar.primary
nests-primary s zero k = nests-base zero s k
nests-primary Insert (suc depth) k = nests-or (suc depth) (nests-between (grammar.primary Insert depth) depth (nests-primary Insert depth) k) (nests-base (suc depth) Insert k)
nests-primary Change (suc depth) k = nests-or (suc depth) (nests-between (grammar.primary Change depth) depth (nests-primary Change depth) k) (nests-base (suc depth) Change k)
nests-primary Query (suc depth) k =
    nests-or (suc depth) (nests-between (grammar.primary Query depth) depth (nests-primary Query depth) k)
    (nests-or (suc depth) (nests-only (suc depth) (allows k) (nests-aggregate (grammar.primary Query depth) depth (nests-primary Query depth) k)) (nests-base (suc depth) Query k))

nests-at-first : {A : Type 0} {P : Rule A} (d : ℕ) → Nests d P → Nests d (at_first P)
nests-at-first d p t u h = p t.0 u h.0

pub whole-nests : (s : Scope) (x : Whole) (ts : Tokens) → grammar.whole s x ts → AtMostOpen 64 ts
whole-nests s x ts h =
    (nests-then 64 (nests-then 64 (nests-at-first 64 (nests-any-of (grammar.primary s 64) 64 (nests-primary s 64) 255)) (λ y. nests-give 64 _)) (λ y. nests-give 64 _) x ts h).within
