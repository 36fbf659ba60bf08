-- Label expressions (ISO/IEC 9075-16:2023): which tree a list of tokens is. Each rule takes how many of the operators
-- `|`, `&` and `!` may still come, and gives the tree with how many may come after it.
use Rattle.std.specs.Prelude.{ℕ, zero, suc, ◌-◌}
use Rattle.pg_ast.specs.declared.pattern.LabelExpr.{LabelExpr}
use Rattle.pg_ast.specs.declared.pattern.LabelExpr.TheVariants as label
use Rattle.pg_ast.specs.declared.counted.CountedLabel.{CountedLabel}
use Rattle.pg_ast.specs.Grammar.Rule.{Rule, ◌>>=◌, give, the, ◌or◌, repeat, only}
use Rattle.pg_ast.specs.Grammar.Counting.{allows}
use Rattle.pg_ast.specs.Grammar.Names.{name}
use Rattle.pg_ast.specs.Words.Names as word

abbrev pub labelled : LabelExpr → ℕ → CountedLabel
labelled l k = record { label = l; left = k }

-- '%' | name
abbrev pub base : ℕ → Rule CountedLabel
base k =
    (the word.percent >>= λ _. give (labelled label.All k))
    or (name >>= λ n. give (labelled (label.Is n) k))

-- the levels over a rule for what needs no operator outside of parentheses
module _ (P : ℕ → Rule CountedLabel) where
  -- lnot := '!' lnot | '%' | name | '(' lor ')'
  abbrev pub complement : ℕ → Rule CountedLabel
  complement zero = P zero
  complement (suc k) =
      (do
        _ ← the word.exclaim
        x ← complement k
        give (labelled (label.Not x.label) x.left))
      or P (suc k)

  -- land := lnot { '&' lnot }
  abbrev pub next_complement : CountedLabel → Rule CountedLabel
  next_complement x = do
    _ ← the word.ampersand
    y ← complement (x.left - 1)
    give (labelled (label.And x.label y.label) y.left)

  abbrev pub intersection : ℕ → Rule CountedLabel
  intersection k = complement k >>= repeat (λ x. only (allows x.left) (next_complement x))

  -- lor := land { '|' land }
  abbrev pub next_intersection : CountedLabel → Rule CountedLabel
  next_intersection x = do
    _ ← the word.bar
    y ← intersection (x.left - 1)
    give (labelled (label.Or x.label y.label) y.left)

  abbrev pub union : ℕ → Rule CountedLabel
  union k = intersection k >>= repeat (λ x. only (allows x.left) (next_intersection x))

-- '(' lor ')'
abbrev pub paren : (ℕ → Rule CountedLabel) → ℕ → Rule CountedLabel
paren P k = do
  _ ← the word.opening
  x ← union P k
  _ ← the word.close
  give x

-- with at most that many parentheses open at any place
unfoldable pub primary : ℕ → ℕ → Rule CountedLabel
primary zero k = base k
primary (suc depth) k = paren (primary depth) k or base k

-- a label expression that stands in no other, of at most 255 operators, and with at most 64 parentheses open at any place
abbrev pub labels : Rule LabelExpr
labels = union (primary 64) 255 >>= λ x. give x.label
