-- One step of the parsers of expressions, as the code tests it.
use Rattle.std.proofs.Common.{◌≡◌, ℕ, zero, suc, ◌-◌, Bool, true, false, [], ◌∷◌, refl, arith, sub-one}
use Rattle.std.specs.Prelude.{◌&&◌, ◌||◌, if◌then◌else◌, nat_lt}
use Rattle.std.proofs.lemmas.Bool.{lt-ltb}
use Rattle.pg_ast.specs.declared.expr.Expr.TheVariants as expr
use Rattle.pg_ast.specs.declared.expr.UnOp.TheVariants as un
use Rattle.pg_ast.specs.declared.counted.Scope.{Scope}
use Rattle.pg_ast.specs.declared.counted.Scope.TheVariants.{Insert, Change, Query}
use Rattle.pg_ast.specs.declared.counted.CountedExpr.{CountedExpr}
use Rattle.pg_ast.specs.Words.Terminals.{Tokens}
use Rattle.pg_ast.specs.Words.Exprs as word
use Rattle.pg_grammar.specs.Kit.Reading.{Parser, ◌>>=◌, pure, eat, sees, sees_if}
use Rattle.pg_grammar.specs.Kit.Sets.{any}
use Rattle.pg_grammar.specs.Read.Exprs.{counted, unary, neg, boolean_test, primary, paren, aggregate, base, has_aggregates, comparison_signs, agg_words}
use Rattle.pg_grammar.proofs.LabelSteps.{sees_guarded}

-- what is read from a minus on
abbrev pub negated : (ℕ → Parser CountedExpr) → ℕ → Parser CountedExpr
negated P k = eat word.minus >>= λ t. unary P k >>= λ x. pure (counted (expr.Unary un.Minus x.expr t.from) x.left)

pub unary_step : (P : ℕ → Parser CountedExpr) (k : ℕ) (l : Tokens) → unary P k l ≡ (if (nat_lt 0 k && sees word.minus l) then negated P (k - 1) l else P k l)
unfolding unary
unary_step P zero l = refl
unary_step P (suc k) l = let some : nat_lt 0 (suc k) ≡ true = lt-ltb 0 (suc k) (omega arith) in rw (sub-one, some) refl

-- what is read from a NOT on
abbrev pub denied : (ℕ → Parser CountedExpr) → ℕ → Parser CountedExpr
denied P k = eat word.not_word >>= λ t. neg P k >>= λ x. pure (counted (expr.Unary un.Not x.expr t.from) x.left)

pub neg_step : (P : ℕ → Parser CountedExpr) (k : ℕ) (l : Tokens) → neg P k l ≡ (if (nat_lt 0 k && sees word.not_word l) then denied P (k - 1) l else boolean_test P k l)
unfolding neg
neg_step P zero l = refl
neg_step P (suc k) l = let some : nat_lt 0 (suc k) ≡ true = lt-ltb 0 (suc k) (omega arith) in rw (sub-one, some) refl

never : (b : Bool) → (b && false) ≡ false
never true = refl
never false = refl

pub primary_step : (s : Scope) (d k : ℕ) (l : Tokens) →
    primary s d k l ≡ (if (nat_lt 0 d && sees word.opening l) then paren (primary s (d - 1)) k l
    else (if (nat_lt 0 d && (nat_lt 0 k && (has_aggregates s && sees_if (any agg_words) l))) then aggregate (primary Query (d - 1)) k l else base s k l))
unfolding primary
primary_step s zero k l = refl
primary_step Insert (suc d) k l = let some : nat_lt 0 (suc d) ≡ true = lt-ltb 0 (suc d) (omega arith) in rw (sub-one, some, never (nat_lt 0 k)) refl
primary_step Change (suc d) k l = let some : nat_lt 0 (suc d) ≡ true = lt-ltb 0 (suc d) (omega arith) in rw (sub-one, some, never (nat_lt 0 k)) refl
primary_step Query (suc d) k l = let some : nat_lt 0 (suc d) ≡ true = lt-ltb 0 (suc d) (omega arith) in rw (sub-one, some, sees_guarded (nat_lt 0 k) (any agg_words) l) refl

pub comparison_seen : (l : Tokens) →
    sees_if (any comparison_signs) l ≡ (sees word.equals l || (sees word.unequal l || (sees word.less l || (sees word.at_most l || (sees word.greater l || sees word.at_least l)))))
comparison_seen [] = refl
comparison_seen (t ∷ l) = refl

pub agg_word_seen : (l : Tokens) → sees_if (any agg_words) l ≡ (sees word.count l || (sees word.sum_word l || (sees word.min_word l || sees word.max_word l)))
agg_word_seen [] = refl
agg_word_seen (t ∷ l) = refl
