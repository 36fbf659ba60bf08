-- Reading label expressions, in the order of the code.
use Rattle.std.specs.Prelude.{ℕ, zero, suc, ◌-◌, Bool}
use Rattle.pg_lex.specs.declared.token.Token.{Token}
use Rattle.pg_ast.specs.declared.pattern.LabelExpr.{LabelExpr}
use Rattle.pg_ast.specs.declared.pattern.LabelExpr.TheVariants as label
use Rattle.pg_ast.specs.declared.counted.CountedLabel.{CountedLabel}
use Rattle.pg_ast.specs.Words.Terminals.{matches}
use Rattle.pg_grammar.specs.Kit.Reading.{Parser, ◌>>=◌, pure, eat, choose, guarded, loop}
use Rattle.pg_ast.specs.Grammar.Counting.{allows}
use Rattle.pg_grammar.specs.Read.{name}
use Rattle.pg_ast.specs.Grammar.Labels.{labelled}
use Rattle.pg_ast.specs.Words.Names as word

unfoldable pub base : ℕ → Parser CountedLabel
base k =
    choose word.percent (eat word.percent >>= λ _. pure (labelled label.All k))
    (name >>= λ n. pure (labelled (label.Is n) k))

abbrev pub goes_on_and : CountedLabel → Token → Bool
goes_on_and x = guarded (allows x.left) (matches word.ampersand)

abbrev pub goes_on_or : CountedLabel → Token → Bool
goes_on_or x = guarded (allows x.left) (matches word.bar)

module _ (P : ℕ → Parser CountedLabel) where
  unfoldable pub complement : ℕ → Parser CountedLabel
  complement zero = P zero
  complement (suc k) =
      choose word.exclaim
      (do
        _ ← eat word.exclaim
        x ← complement k
        pure (labelled (label.Not x.label) x.left))
      (P (suc k))

  unfoldable pub next_complement : CountedLabel → Parser CountedLabel
  next_complement x = do
    _ ← eat word.ampersand
    y ← complement (x.left - 1)
    pure (labelled (label.And x.label y.label) y.left)

  abbrev pub intersection : ℕ → Parser CountedLabel
  intersection k = complement k >>= loop goes_on_and next_complement

  unfoldable pub next_intersection : CountedLabel → Parser CountedLabel
  next_intersection x = do
    _ ← eat word.bar
    y ← intersection (x.left - 1)
    pure (labelled (label.Or x.label y.label) y.left)

  abbrev pub union : ℕ → Parser CountedLabel
  union k = intersection k >>= loop goes_on_or next_intersection

unfoldable pub paren : (ℕ → Parser CountedLabel) → ℕ → Parser CountedLabel
paren P k = do
  _ ← eat word.opening
  x ← union P k
  _ ← eat word.close
  pure x

unfoldable pub primary : ℕ → ℕ → Parser CountedLabel
primary zero k = base k
primary (suc depth) k = choose word.opening (paren (primary depth) k) (base k)

unfoldable pub labels : Parser LabelExpr
labels = union (primary 64) 255 >>= λ x. pure x.label
