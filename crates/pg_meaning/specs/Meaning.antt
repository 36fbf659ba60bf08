-- What a checked expression means: its value, where a condition has TRUE, FALSE or NULL, and its truth
-- (ISO/IEC 9075-2:2023, numeric value expression, boolean value expression, comparison predicate, null predicate, aggregate function).
use Rattle.std.specs.Prelude.{ℕ, ℤ, pos, neg_ℤ, ◌+ℤ◌, ◌-ℤ◌, ◌*ℤ◌, ◌≡◌, ◌==◌, true, false, cond, not, List, [], ◌∷◌, ◌++◌, length, map, filter, Option, IfSome, slice_index_or}
use Rattle.std.specs.Ordering.{is_lt}
use Rattle.pg_value.specs.declared.value.Value.{Value}
use Rattle.pg_value.specs.declared.value.Value.TheVariants.{Null, Int, Text, Bool as Truth'}
use Rattle.pg_value.specs.declared.value.Truth.{Truth}
use Rattle.pg_value.specs.declared.value.Truth.TheVariants.{True, False, Unknown}
use Rattle.pg_value.specs.declared.value.Cmp.TheVariants as cmps
use Rattle.pg_value.specs.declared.row.Row.{Row}
use Rattle.pg_value.specs.declared.shape.ElemId.{ElemId}
use Rattle.pg_value.specs.Order.{value_cmp, number}
use Rattle.pg_value.specs.Compare.{is_null, compare}
use Rattle.pg_value.specs.Tables.{Tables}
use Rattle.pg_value.specs.Graph.{property}
use Rattle.pg_ast.specs.declared.expr.UnOp.{UnOp}
use Rattle.pg_ast.specs.declared.expr.UnOp.TheVariants.{Minus, Not, IsNull, IsNotNull}
use Rattle.pg_ast.specs.declared.expr.BinOp.{BinOp}
use Rattle.pg_ast.specs.declared.expr.BinOp.TheVariants as bin
use Rattle.pg_ast.specs.declared.expr.Agg.{Agg}
use Rattle.pg_ast.specs.declared.expr.Agg.TheVariants.{Count, Sum, Min, Max}
use Rattle.pg_meaning.specs.declared.checked.CExpr.{CExpr}
use Rattle.pg_meaning.specs.CExprs.{CTree, Literal, ColumnAt, PropertyOf, One, Two, Group, Counted, ctree_of}

-- WHAT AN EXPRESSION IS JUDGED OVER

-- the elements that each variable stands for, in order: one where it is a singleton, one for each round where it is a group variable
abbrev pub Assignment : Type 0
Assignment = ℕ → List ElemId

-- one row of a table that is changed, or the tables of a snapshot and what a query's variables stand for
pub data Scope : Type 0 where
  OfRow : Row → Scope
  OfVars : Tables → Assignment → Scope

abbrev pub column_of : Scope → ℕ → Value
column_of (OfRow row) c = slice_index_or row.values c Null
column_of (OfVars tables f) c = Null

abbrev pub elems_of : Scope → ℕ → List ElemId
elems_of (OfRow row) x = []
elems_of (OfVars tables f) x = f x

abbrev pub property_first : Tables → List ElemId → List (Option ℕ) → Value
property_first tables [] columns = Null
property_first tables (e ∷ es) columns = property tables e columns

-- the property of the element that a singleton stands for
abbrev pub property_of : Scope → ℕ → List (Option ℕ) → Value
property_of (OfRow row) x columns = Null
property_of (OfVars tables f) x columns = property_first tables (f x) columns

-- the same where one variable stands for one element
abbrev pub with_elem : Scope → ℕ → ElemId → Scope
with_elem (OfRow row) x e = OfRow row
with_elem (OfVars tables f) x e = OfVars tables (λ y. cond (y == x) (e ∷ []) (f y))

-- THREE-VALUED LOGIC

abbrev pub truth_not : Truth → Truth
truth_not True = False
truth_not False = True
truth_not Unknown = Unknown

abbrev pub truth_and : Truth → Truth → Truth
truth_and True b = b
truth_and False b = False
truth_and Unknown True = Unknown
truth_and Unknown False = False
truth_and Unknown Unknown = Unknown

abbrev pub truth_or : Truth → Truth → Truth
truth_or True b = True
truth_or False b = b
truth_or Unknown True = True
truth_or Unknown False = Unknown
truth_or Unknown Unknown = Unknown

-- a truth value used as a value, unknown being NULL
abbrev pub as_value : Truth → Value
as_value True = Truth' true
as_value False = Truth' false
as_value Unknown = Null

abbrev pub as_truth : Value → Truth
as_truth Null = Unknown
as_truth (Int n) = Unknown
as_truth (Text t) = Unknown
as_truth (Truth' true) = True
as_truth (Truth' false) = False

-- OPERATORS

-- exact whole numbers, and NULL where an operand is NULL
abbrev pub on_numbers : (ℤ → ℤ → ℤ) → Value → Value → Value
on_numbers f (Int m) (Int n) = Int (f m n)
on_numbers f _ _ = Null

abbrev pub minus : Value → Value
minus (Int n) = Int (neg_ℤ n)
minus _ = Null

abbrev pub unary : UnOp → Value → Value
unary Minus v = minus v
unary Not v = as_value (truth_not (as_truth v))
unary IsNull v = Truth' (is_null v)
unary IsNotNull v = Truth' (not (is_null v))

abbrev pub binary : BinOp → Value → Value → Value
binary bin.Or u v = as_value (truth_or (as_truth u) (as_truth v))
binary bin.And u v = as_value (truth_and (as_truth u) (as_truth v))
binary bin.Eq u v = as_value (compare cmps.Eq u v)
binary bin.Ne u v = as_value (compare cmps.Ne u v)
binary bin.Lt u v = as_value (compare cmps.Lt u v)
binary bin.Le u v = as_value (compare cmps.Le u v)
binary bin.Gt u v = as_value (compare cmps.Gt u v)
binary bin.Ge u v = as_value (compare cmps.Ge u v)
binary bin.Plus u v = on_numbers (λ m n. m +ℤ n) u v
binary bin.Minus u v = on_numbers (λ m n. m -ℤ n) u v
binary bin.Times u v = on_numbers (λ m n. m *ℤ n) u v

-- AGGREGATES

-- the values that are not NULL
abbrev pub present : List Value → List Value
present vs = filter (λ v. not (is_null v)) vs

abbrev pub total : List Value → ℤ
total [] = pos 0
total (v ∷ vs) = number v +ℤ total vs

abbrev pub lesser : Value → Value → Value
lesser u v = cond (is_lt (value_cmp v u)) v u

abbrev pub greater : Value → Value → Value
greater u v = cond (is_lt (value_cmp u v)) v u

-- one value out of all, two at a time
abbrev pub all_by : (Value → Value → Value) → Value → List Value → Value
all_by f v [] = v
all_by f v (w ∷ ws) = f v (all_by f w ws)

-- over nothing COUNT is 0 and the others are NULL
abbrev pub aggregate : Agg → List Value → Value
aggregate Count vs = Int (pos (length vs))
aggregate Sum [] = Null
aggregate Sum (v ∷ vs) = Int (total (v ∷ vs))
aggregate Min [] = Null
aggregate Min (v ∷ vs) = all_by lesser v vs
aggregate Max [] = Null
aggregate Max (v ∷ vs) = all_by greater v vs

-- the variables of an expression, as they stand in it
abbrev pub vars_of : CTree → List ℕ
vars_of (Literal v) = []
vars_of (ColumnAt c) = []
vars_of (PropertyOf x columns) = x ∷ []
vars_of (One op x) = vars_of x
vars_of (Two op x y) = vars_of x ++ vars_of y
vars_of (Group agg x) = vars_of x
vars_of (Counted x) = x ∷ []

-- the values of an aggregate's argument, at each element of its one variable
abbrev pub values_over : (Scope → Value) → Scope → List ℕ → List Value
values_over value scope [] = []
values_over value scope (x ∷ xs) = map (λ e. value (with_elem scope x e)) (elems_of scope x)

-- THE VALUE

abbrev pub value_of : CTree → Scope → Value
value_of (Literal v) scope = v
value_of (ColumnAt c) scope = column_of scope c
value_of (PropertyOf x columns) scope = property_of scope x columns
value_of (One op x) scope = unary op (value_of x scope)
value_of (Two op x y) scope = binary op (value_of x scope) (value_of y scope)
value_of (Group agg x) scope = aggregate agg (present (values_over (λ s. value_of x s) scope (vars_of x)))
value_of (Counted x) scope = Int (pos (length (elems_of scope x)))

abbrev pub truth_of : CTree → Scope → Truth
truth_of x scope = as_truth (value_of x scope)

-- what WHERE keeps
abbrev pub IsTrueOf : CExpr → Scope → Type 0
IsTrueOf condition scope = truth_of (ctree_of condition) scope ≡ True

-- a condition, where there is one
abbrev pub Meets : Option CExpr → Scope → Type 0
Meets condition scope = IfSome condition (λ c. IsTrueOf c scope)
