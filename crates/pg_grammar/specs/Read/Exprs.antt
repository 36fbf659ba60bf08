-- Reading expressions, in the order of the code.
use Rattle.std.specs.Prelude.{ℕ, zero, suc, ◌-◌, Bool, true, false, List, [], ◌∷◌}
use Rattle.pg_lex.specs.declared.token.Token.{Token}
use Rattle.pg_value.specs.declared.value.Value.{Value}
use Rattle.pg_value.specs.declared.value.Value.TheVariants as value
use Rattle.pg_ast.specs.declared.expr.Expr.{Expr}
use Rattle.pg_ast.specs.declared.expr.Expr.TheVariants as expr
use Rattle.pg_ast.specs.declared.expr.Whole.{Whole}
use Rattle.pg_ast.specs.declared.expr.Agg.{Agg}
use Rattle.pg_ast.specs.declared.expr.Agg.TheVariants as agg
use Rattle.pg_ast.specs.declared.expr.BinOp.{BinOp}
use Rattle.pg_ast.specs.declared.expr.BinOp.TheVariants as bin
use Rattle.pg_ast.specs.declared.expr.UnOp.{UnOp}
use Rattle.pg_ast.specs.declared.expr.UnOp.TheVariants as un
use Rattle.pg_ast.specs.declared.counted.Scope.{Scope}
use Rattle.pg_ast.specs.declared.counted.Scope.TheVariants.{Insert, Change, Query}
use Rattle.pg_ast.specs.declared.counted.Operator.{Operator}
use Rattle.pg_ast.specs.declared.counted.AggWord.{AggWord}
use Rattle.pg_ast.specs.declared.counted.CountedExpr.{CountedExpr}
use Rattle.pg_ast.specs.declared.counted.CountedWhole.{CountedWhole}
use Rattle.pg_ast.specs.Words.Terminals.{Terminal, AName, ANumber, AText, text_of, matches}
use Rattle.pg_ast.specs.Grammar.Counting.{allows}
pub use Rattle.pg_ast.specs.Grammar.Exprs.{counted}
use Rattle.pg_ast.specs.Grammar.Exprs.{plain, number_literal, other_literal}
use Rattle.pg_ast.specs.Words.Exprs as word
use Rattle.pg_grammar.specs.Kit.Reading.{Parser, ◌>>=◌, pure, eat, choose, choose_if, guarded, loop, sees_either}
use Rattle.pg_grammar.specs.Kit.Sets.{any}
use Rattle.pg_grammar.specs.Kit.Choices.{choose_by, sees_two}
use Rattle.pg_grammar.specs.Kit.Optional.{with_place}
use Rattle.pg_grammar.specs.Read.{name}

-- that operator before an expression
abbrev pub applied : UnOp → CountedExpr → ℕ → CountedExpr
applied op x at = counted (expr.Unary op x.expr at) x.left

-- and between two
abbrev pub joined : Operator → CountedExpr → CountedExpr → CountedExpr
joined o x y = counted (expr.Binary o.op x.expr y.expr o.at) y.left

abbrev pub aggregated : AggWord → CountedExpr → CountedExpr
aggregated a x = counted (expr.Agg a.agg x.expr a.at) x.left

unfoldable pub number : Parser Expr
number = eat ANumber >>= λ t. pure (number_literal (text_of t) t.from)

unfoldable pub text : Parser Expr
text = eat AText >>= λ t. pure (other_literal (value.Text (text_of t)) t.from)

unfoldable pub constant : Terminal → Value → Parser Expr
constant p v = eat p >>= λ t. pure (other_literal v t.from)

unfoldable pub literal : Parser Expr
literal =
    choose ANumber number
    (choose AText text
    (choose word.true_word (constant word.true_word (value.Bool true))
    (choose word.false_word (constant word.false_word (value.Bool false))
    (constant word.null value.Null))))

unfoldable pub column : Parser Expr
column = name >>= λ n. pure (expr.Column n)

unfoldable pub property : Parser Expr
property = do
  v ← name
  _ ← eat word.dot
  n ← name
  pure (expr.Property v n)

abbrev pub counted_literal : ℕ → Parser CountedExpr
counted_literal k = literal >>= λ e. pure (counted e k)

abbrev pub counted_column : ℕ → Parser CountedExpr
counted_column k = column >>= λ e. pure (counted e k)

abbrev pub counted_property : ℕ → Parser CountedExpr
counted_property k = property >>= λ e. pure (plain e k)

unfoldable pub base : Scope → ℕ → Parser CountedExpr
base Insert k = counted_literal k
base Change k = choose AName (counted_column k) (counted_literal k)
base Query k = choose AName (counted_property k) (counted_literal k)

unfoldable pub operator : Terminal → BinOp → Parser Operator
operator p op = eat p >>= λ t. pure (record { op = op; at = t.from })

unfoldable pub comparison : Parser Operator
comparison =
    choose word.equals (operator word.equals bin.Eq)
    (choose word.unequal (operator word.unequal bin.Ne)
    (choose word.less (operator word.less bin.Lt)
    (choose word.at_most (operator word.at_most bin.Le)
    (choose word.greater (operator word.greater bin.Gt)
    (operator word.at_least bin.Ge)))))

unfoldable pub plus_or_minus : Parser Operator
plus_or_minus = choose word.plus (operator word.plus bin.Plus) (operator word.minus bin.Minus)

unfoldable pub agg_word_of : Terminal → Agg → Parser AggWord
agg_word_of p a = eat p >>= λ t. pure (record { agg = a; at = t.from })

unfoldable pub agg_word : Parser AggWord
agg_word =
    choose word.count (agg_word_of word.count agg.Count)
    (choose word.sum_word (agg_word_of word.sum_word agg.Sum)
    (choose word.min_word (agg_word_of word.min_word agg.Min)
    (agg_word_of word.max_word agg.Max)))

-- where aggregates stand
abbrev pub has_aggregates : Scope → Bool
has_aggregates Insert = false
has_aggregates Change = false
has_aggregates Query = true

unfoldable pub null_test : CountedExpr → Parser CountedExpr
null_test x = do
  t ← eat word.is_word
  choose word.not_word
      (do
        _ ← eat word.not_word
        _ ← eat word.null
        pure (counted (expr.Unary un.IsNotNull x.expr t.from) (x.left - 1)))
      (eat word.null >>= λ _. pure (counted (expr.Unary un.IsNull x.expr t.from) (x.left - 1)))

unfoldable pub of_variable : AggWord → ℕ → Parser CountedExpr
of_variable a k = do
  v ← name
  _ ← eat word.close
  pure (counted (expr.CountVar v a.at) k)

-- WHICH TOKEN GOES ON WITH X

abbrev pub comparison_signs : List Terminal
comparison_signs = word.equals ∷ word.unequal ∷ word.less ∷ word.at_most ∷ word.greater ∷ word.at_least ∷ []

abbrev pub agg_words : List Terminal
agg_words = word.count ∷ word.sum_word ∷ word.min_word ∷ word.max_word ∷ []

abbrev pub goes_on_prod : CountedExpr → Token → Bool
goes_on_prod x = guarded (allows x.left) (matches word.star)

abbrev pub goes_on_sum : CountedExpr → Token → Bool
goes_on_sum x = guarded (allows x.left) (sees_either word.plus word.minus)

abbrev pub goes_on_conj : CountedExpr → Token → Bool
goes_on_conj x = guarded (allows x.left) (matches word.and_word)

abbrev pub goes_on_any : CountedExpr → Token → Bool
goes_on_any x = guarded (allows x.left) (matches word.or_word)

-- THE LEVELS

module _ (P : ℕ → Parser CountedExpr) where
  unfoldable pub unary : ℕ → Parser CountedExpr
  unary zero = P zero
  unary (suc k) =
      choose word.minus
      (do
        t ← eat word.minus
        x ← unary k
        pure (applied un.Minus x t.from))
      (P (suc k))

  unfoldable pub next_factor : CountedExpr → Parser CountedExpr
  next_factor x = do
    o ← operator word.star bin.Times
    y ← unary (x.left - 1)
    pure (joined o x y)

  unfoldable pub prod : ℕ → Parser CountedExpr
  prod k = unary k >>= loop goes_on_prod next_factor

  unfoldable pub next_term : CountedExpr → Parser CountedExpr
  next_term x = do
    o ← plus_or_minus
    y ← prod (x.left - 1)
    pure (joined o x y)

  unfoldable pub sum : ℕ → Parser CountedExpr
  sum k = prod k >>= loop goes_on_sum next_term

  unfoldable pub compared : CountedExpr → Parser CountedExpr
  compared x = do
    o ← comparison
    y ← sum (x.left - 1)
    pure (joined o x y)

  unfoldable pub boolean_test : ℕ → Parser CountedExpr
  boolean_test k = sum k >>= λ x.
      choose_if (guarded (allows x.left) (any comparison_signs)) (compared x)
      (choose_if (guarded (allows x.left) (matches word.is_word)) (null_test x) (pure x))

  unfoldable pub neg : ℕ → Parser CountedExpr
  neg zero = boolean_test zero
  neg (suc k) =
      choose word.not_word
      (do
        t ← eat word.not_word
        x ← neg k
        pure (applied un.Not x t.from))
      (boolean_test (suc k))

  unfoldable pub next_neg : CountedExpr → Parser CountedExpr
  next_neg x = do
    o ← operator word.and_word bin.And
    y ← neg (x.left - 1)
    pure (joined o x y)

  unfoldable pub conj : ℕ → Parser CountedExpr
  conj k = neg k >>= loop goes_on_conj next_neg

  unfoldable pub next_conj : CountedExpr → Parser CountedExpr
  next_conj x = do
    o ← operator word.or_word bin.Or
    y ← conj (x.left - 1)
    pure (joined o x y)

  unfoldable pub any_of : ℕ → Parser CountedExpr
  any_of k = conj k >>= loop goes_on_any next_conj

  unfoldable pub paren : ℕ → Parser CountedExpr
  paren k = do
    _ ← eat word.opening
    x ← any_of k
    _ ← eat word.close
    pure (counted x.expr x.left)

  unfoldable pub of_expr : AggWord → ℕ → Parser CountedExpr
  of_expr a k = do
    x ← any_of k
    _ ← eat word.close
    pure (aggregated a x)

  unfoldable pub argument : Agg → AggWord → ℕ → Parser CountedExpr
  argument agg.Count a k = choose_by (sees_two (matches AName) (matches word.close)) (of_variable a k) (of_expr a k)
  argument other a k = of_expr a k

  unfoldable pub aggregate : ℕ → Parser CountedExpr
  aggregate k = do
    a ← agg_word
    _ ← eat word.opening
    argument a.agg a (k - 1)

unfoldable pub primary : Scope → ℕ → ℕ → Parser CountedExpr
primary s zero k = base s k
primary Query (suc depth) k =
    choose word.opening (paren (primary Query depth) k)
    (choose_if (guarded (allows k) (any agg_words)) (aggregate (primary Query depth) k) (base Query k))
primary s (suc depth) k = choose word.opening (paren (primary s depth) k) (base s k)

unfoldable pub counted_expr : Scope → Parser CountedExpr
counted_expr s = any_of (primary s 64) 255

unfoldable pub counted_whole : Scope → Parser CountedWhole
counted_whole s = with_place (counted_expr s) >>= λ x. pure (record { whole = record { expr = x.0.expr; at = x.1 }; plain = x.0.plain })

unfoldable pub whole : Scope → Parser Whole
whole s = counted_whole s >>= λ x. pure x.whole
