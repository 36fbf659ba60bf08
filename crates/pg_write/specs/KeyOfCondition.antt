-- The key that a condition asks for: as a conjunction it equals each key column with a literal.
use Rattle.std.specs.Prelude.{ℕ, ◌==◌, Bool, true, false, cond, List, [], ◌∷◌, Option, Some, None}
use Rattle.pg_value.specs.declared.value.Value.{Value}
use Rattle.pg_ast.specs.declared.expr.BinOp.{BinOp}
use Rattle.pg_ast.specs.declared.expr.BinOp.TheVariants as bin
use Rattle.pg_meaning.specs.declared.checked.CExpr.{CExpr}
use Rattle.pg_meaning.specs.CExprs.{CTree, Literal, ColumnAt, PropertyOf, One, Two, Group, Counted, ctree_of}

abbrev pub first_of : Option Value → Option Value → Option Value
first_of (Some v) later = Some v
first_of None later = later

-- one side is the column
abbrev pub is_column : ℕ → CTree → Bool
is_column c (ColumnAt d) = d == c
is_column c (Literal v) = false
is_column c (PropertyOf x places) = false
is_column c (One op x) = false
is_column c (Two op x y) = false
is_column c (Group agg x) = false
is_column c (Counted x) = false

-- and the other a literal
abbrev pub literal_in : CTree → Option Value
literal_in (Literal v) = Some v
literal_in (ColumnAt d) = None
literal_in (PropertyOf x places) = None
literal_in (One op x) = None
literal_in (Two op x y) = None
literal_in (Group agg x) = None
literal_in (Counted x) = None

abbrev pub literal_beside : ℕ → CTree → CTree → Option Value
literal_beside c x y = cond (is_column c x) (literal_in y) (cond (is_column c y) (literal_in x) None)

abbrev pub is_and : BinOp → Bool
is_and bin.And = true
is_and bin.Or = false
is_and bin.Eq = false
is_and bin.Ne = false
is_and bin.Lt = false
is_and bin.Le = false
is_and bin.Gt = false
is_and bin.Ge = false
is_and bin.Plus = false
is_and bin.Minus = false
is_and bin.Times = false

abbrev pub is_equals : BinOp → Bool
is_equals bin.Eq = true
is_equals bin.And = false
is_equals bin.Or = false
is_equals bin.Ne = false
is_equals bin.Lt = false
is_equals bin.Le = false
is_equals bin.Gt = false
is_equals bin.Ge = false
is_equals bin.Plus = false
is_equals bin.Minus = false
is_equals bin.Times = false

-- the literal that a column is to equal
abbrev pub literal_for : ℕ → CTree → Option Value
literal_for c (Literal v) = None
literal_for c (ColumnAt d) = None
literal_for c (PropertyOf x places) = None
literal_for c (One op x) = None
literal_for c (Two op x y) = cond (is_and op) (first_of (literal_for c x) (literal_for c y)) (cond (is_equals op) (literal_beside c x y) None)
literal_for c (Group agg x) = None
literal_for c (Counted x) = None

abbrev pub with_value : Option Value → Option (List Value) → Option (List Value)
with_value None rest = None
with_value (Some v) None = None
with_value (Some v) (Some vs) = Some (v ∷ vs)

-- a literal for each of these columns
abbrev pub literals_for : CTree → List ℕ → Option (List Value)
literals_for x [] = Some []
literals_for x (c ∷ cs) = with_value (literal_for c x) (literals_for x cs)

abbrev pub key_in : Option CExpr → List ℕ → Option (List Value)
key_in None columns = None
key_in (Some e) columns = literals_for (ctree_of e) columns
