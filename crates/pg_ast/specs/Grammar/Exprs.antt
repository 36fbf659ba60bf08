-- Expressions (ISO/IEC 9075-2:2023, value expression): which tree a list of tokens is. Each rule takes how many operators
-- may still come, and gives the tree with how many may come after it. The operators are OR, AND, NOT, the comparisons,
-- IS with its NOT, `+`, `-`, `*` and the words of aggregates.
use Rattle.std.specs.Prelude.{ℕ, zero, suc, ◌-◌, ◌^◌, pos, true, false, if◌then◌else◌, nat_lt, List, length}
use Rattle.std.specs.Int.Digits.{digits_of}
use Rattle.pg_value.specs.declared.value.Value.{Value}
use Rattle.pg_value.specs.declared.value.Value.TheVariants as value
use Rattle.pg_ast.specs.declared.expr.Expr.{Expr}
use Rattle.pg_ast.specs.declared.expr.Expr.TheVariants as expr
use Rattle.pg_ast.specs.declared.expr.Whole.{Whole}
use Rattle.pg_ast.specs.declared.expr.Agg.{Agg}
use Rattle.pg_ast.specs.declared.expr.Agg.TheVariants as agg
use Rattle.pg_ast.specs.declared.expr.BinOp.{BinOp}
use Rattle.pg_ast.specs.declared.expr.BinOp.TheVariants as bin
use Rattle.pg_ast.specs.declared.expr.UnOp.TheVariants as un
use Rattle.pg_ast.specs.declared.counted.Scope.{Scope}
use Rattle.pg_ast.specs.declared.counted.Scope.TheVariants.{Insert, Change, Query}
use Rattle.pg_ast.specs.declared.counted.Operator.{Operator}
use Rattle.pg_ast.specs.declared.counted.AggWord.{AggWord}
use Rattle.pg_ast.specs.declared.counted.CountedExpr.{CountedExpr}
use Rattle.pg_ast.specs.declared.counted.CountedWhole.{CountedWhole}
pub use Rattle.pg_lex.specs.Texts.{number_after}
use Rattle.pg_ast.specs.Words.Terminals.{Terminal, ANumber, AText, text_of}
use Rattle.pg_ast.specs.Grammar.Rule.{Rule, ◌>>=◌, give, the, ◌or◌, repeat, only, at_first}
use Rattle.pg_ast.specs.Grammar.Counting.{allows}
use Rattle.pg_ast.specs.Grammar.Names.{name}
use Rattle.pg_ast.specs.Words.Exprs as word

abbrev pub counted : Expr → ℕ → CountedExpr
counted e k = record { expr = e; left = k; plain = false }

-- LITERALS

-- how many binary digits a number has, 0 having none
abbrev pub binary_digits : ℕ → ℕ
binary_digits n = length (digits_of 2 n)

-- a number's literal, if a value holds it
abbrev pub literal_of : ℕ → ℕ → Expr
literal_of n at = if (nat_lt n (2 ^ 127)) then (expr.Lit (value.Int (pos n)) (binary_digits n) at) else (expr.TooWide at)

unfoldable pub number_literal : List ℕ → ℕ → Expr
number_literal digits at = literal_of (number_after 0 digits) at

abbrev pub other_literal : Value → ℕ → Expr
other_literal v at = expr.Lit v 0 at

-- number | text | TRUE | FALSE | NULL
abbrev pub literal : Rule Expr
literal =
    (the ANumber >>= λ t. give (number_literal (text_of t) t.from))
    or (the AText >>= λ t. give (other_literal (value.Text (text_of t)) t.from))
    or (the word.true_word >>= λ t. give (other_literal (value.Bool true) t.from))
    or (the word.false_word >>= λ t. give (other_literal (value.Bool false) t.from))
    or (the word.null >>= λ t. give (other_literal value.Null t.from))

-- REFERENCES

-- name
abbrev pub column : Rule Expr
column = name >>= λ n. give (expr.Column n)

-- name '.' name
abbrev pub property : Rule Expr
property = do
  v ← name
  _ ← the word.dot
  n ← name
  give (expr.Property v n)

abbrev pub plain : Expr → ℕ → CountedExpr
plain e k = record { expr = e; left = k; plain = true }

-- ref | literal
abbrev pub base : Scope → ℕ → Rule CountedExpr
base Insert k = literal >>= λ e. give (counted e k)
base Change k = (column >>= λ e. give (counted e k)) or (literal >>= λ e. give (counted e k))
base Query k = (property >>= λ e. give (plain e k)) or (literal >>= λ e. give (counted e k))

-- OPERATORS

abbrev pub operator : Terminal → BinOp → Rule Operator
operator p op = the p >>= λ t. give (record { op = op; at = t.from })

-- '=' | '<>' | '<' | '<=' | '>' | '>='
abbrev pub comparison : Rule Operator
comparison =
    operator word.equals bin.Eq
    or operator word.unequal bin.Ne
    or operator word.less bin.Lt
    or operator word.at_most bin.Le
    or operator word.greater bin.Gt
    or operator word.at_least bin.Ge

-- '+' | '-'
abbrev pub plus_or_minus : Rule Operator
plus_or_minus = operator word.plus bin.Plus or operator word.minus bin.Minus

abbrev pub agg_word_of : Terminal → Agg → Rule AggWord
agg_word_of p a = the p >>= λ t. give (record { agg = a; at = t.from })

-- COUNT | SUM | MIN | MAX
abbrev pub agg_word : Rule AggWord
agg_word =
    agg_word_of word.count agg.Count
    or agg_word_of word.sum_word agg.Sum
    or agg_word_of word.min_word agg.Min
    or agg_word_of word.max_word agg.Max

-- IS [ NOT ] NULL, behind x
abbrev pub null_test : CountedExpr → Rule CountedExpr
null_test x =
    the word.is_word >>= λ t.
    (do
      _ ← the word.not_word
      _ ← the word.null
      give (counted (expr.Unary un.IsNotNull x.expr t.from) (x.left - 1)))
    or (the word.null >>= λ _. give (counted (expr.Unary un.IsNull x.expr t.from) (x.left - 1)))

-- name ')', behind COUNT and its '('
abbrev pub of_variable : AggWord → ℕ → Rule CountedExpr
of_variable a k = do
  v ← name
  _ ← the word.close
  give (counted (expr.CountVar v a.at) k)

-- THE LEVELS, OVER A RULE FOR PRIMARY

module _ (P : ℕ → Rule CountedExpr) where
  -- unary := '-' unary | primary
  abbrev pub unary : ℕ → Rule CountedExpr
  unary zero = P zero
  unary (suc k) =
      (do
        t ← the word.minus
        x ← unary k
        give (counted (expr.Unary un.Minus x.expr t.from) x.left))
      or P (suc k)

  -- prod := unary { '*' unary }
  abbrev pub next_factor : CountedExpr → Rule CountedExpr
  next_factor x = do
    o ← operator word.star bin.Times
    y ← unary (x.left - 1)
    give (counted (expr.Binary o.op x.expr y.expr o.at) y.left)

  abbrev pub prod : ℕ → Rule CountedExpr
  prod k = unary k >>= repeat (λ x. only (allows x.left) (next_factor x))

  -- sum := prod { ( '+' | '-' ) prod }
  abbrev pub next_term : CountedExpr → Rule CountedExpr
  next_term x = do
    o ← plus_or_minus
    y ← prod (x.left - 1)
    give (counted (expr.Binary o.op x.expr y.expr o.at) y.left)

  abbrev pub sum : ℕ → Rule CountedExpr
  sum k = prod k >>= repeat (λ x. only (allows x.left) (next_term x))

  -- test := sum [ comparison sum | IS [ NOT ] NULL ]
  abbrev pub compared : CountedExpr → Rule CountedExpr
  compared x = do
    o ← comparison
    y ← sum (x.left - 1)
    give (counted (expr.Binary o.op x.expr y.expr o.at) y.left)

  abbrev pub test : ℕ → Rule CountedExpr
  test k = sum k >>= λ x. only (allows x.left) (compared x) or only (allows x.left) (null_test x) or give x

  -- neg := NOT neg | test
  abbrev pub neg : ℕ → Rule CountedExpr
  neg zero = test zero
  neg (suc k) =
      (do
        t ← the word.not_word
        x ← neg k
        give (counted (expr.Unary un.Not x.expr t.from) x.left))
      or test (suc k)

  -- conj := neg { AND neg }
  abbrev pub next_neg : CountedExpr → Rule CountedExpr
  next_neg x = do
    o ← operator word.and_word bin.And
    y ← neg (x.left - 1)
    give (counted (expr.Binary o.op x.expr y.expr o.at) y.left)

  abbrev pub conj : ℕ → Rule CountedExpr
  conj k = neg k >>= repeat (λ x. only (allows x.left) (next_neg x))

  -- expr := conj { OR conj }
  abbrev pub next_conj : CountedExpr → Rule CountedExpr
  next_conj x = do
    o ← operator word.or_word bin.Or
    y ← conj (x.left - 1)
    give (counted (expr.Binary o.op x.expr y.expr o.at) y.left)

  abbrev pub any_of : ℕ → Rule CountedExpr
  any_of k = conj k >>= repeat (λ x. only (allows x.left) (next_conj x))

  -- '(' expr ')'
  abbrev pub paren : ℕ → Rule CountedExpr
  paren k = do
    _ ← the word.opening
    x ← any_of k
    _ ← the word.close
    give (counted x.expr x.left)

  -- expr ')', behind an aggregate's word and its '('
  abbrev pub of_expr : AggWord → ℕ → Rule CountedExpr
  of_expr a k = do
    x ← any_of k
    _ ← the word.close
    give (counted (expr.Agg a.agg x.expr a.at) x.left)

  -- behind COUNT also name ')'
  abbrev pub argument : Agg → AggWord → ℕ → Rule CountedExpr
  argument agg.Count a k = of_variable a k or of_expr a k
  argument other a k = of_expr a k

  -- agg := ( COUNT | SUM | MIN | MAX ) '(' expr ')' | COUNT '(' name ')'
  abbrev pub aggregate : ℕ → Rule CountedExpr
  aggregate k = do
    a ← agg_word
    _ ← the word.opening
    argument a.agg a (k - 1)

-- primary := '(' expr ')' | agg | ref | literal, with at most that many parentheses open at any place. An aggregate stands
-- in a query alone.
unfoldable pub primary : Scope → ℕ → ℕ → Rule CountedExpr
primary s zero k = base s k
primary Query (suc depth) k = paren (primary Query depth) k or only (allows k) (aggregate (primary Query depth) k) or base Query k
primary s (suc depth) k = paren (primary s depth) k or base s k

-- an expression that stands in no other: at most 255 operators, and at most 64 parentheses open at any place
abbrev pub counted_expr : Scope → Rule CountedExpr
counted_expr s = any_of (primary s 64) 255

-- the same with the place of its first token
abbrev pub counted_whole : Scope → Rule CountedWhole
counted_whole s = at_first (counted_expr s) >>= λ x. give (record { whole = record { expr = x.0.expr; at = x.1 }; plain = x.0.plain })

abbrev pub whole : Scope → Rule Whole
whole s = counted_whole s >>= λ x. give x.whole
