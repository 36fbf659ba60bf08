-- What is counted against the limits of expressions and label expressions.
use Rattle.std.specs.Prelude.{ℕ, ◌+◌, ◌≤◌, ◌≡◌, ◌++◌}
use Rattle.std.specs.List.{count_by}
use Rattle.pg_ast.specs.Trees.{ExprTree, Literal, Wide, ColumnOf, PropertyOf, One, Two, Group, Counted, LabelTree, Every, Named, NotL, AndL, OrL}
use Rattle.pg_ast.specs.Words.Terminals.{Tokens, matches}
use Rattle.pg_ast.specs.Words.Names.{opening, close}

-- the operators of an expression: OR, AND, NOT, the comparisons, the two tests of NULL, `+`, `-`, `*` and the words of aggregates
abbrev pub operators : ExprTree → ℕ
operators (Literal v bits at) = 0
operators (Wide at) = 0
operators (ColumnOf n) = 0
operators (PropertyOf v n) = 0
operators (One op x at) = operators x + 1
operators (Two op x y at) = operators x + operators y + 1
operators (Group agg x at) = operators x + 1
operators (Counted v at) = 1

-- the operators of a label expression: `!`, `&` and `|`
abbrev pub label_operators : LabelTree → ℕ
label_operators Every = 0
label_operators (Named n) = 0
label_operators (NotL x) = label_operators x + 1
label_operators (AndL x y) = label_operators x + label_operators y + 1
label_operators (OrL x y) = label_operators x + label_operators y + 1

-- at no place more than that many of its parentheses are open
abbrev pub AtMostOpen : ℕ → Tokens → Type 0
AtMostOpen n ts = (front back : Tokens) → ts ≡ front ++ back → count_by (matches opening) front ≤ count_by (matches close) front + n
