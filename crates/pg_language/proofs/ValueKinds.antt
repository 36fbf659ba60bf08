-- The value of a checked expression has the kind of the expression, or is NULL.
use Rattle.std.proofs.Common.{ℕ, zero, suc, ◌≡◌, true, false, refl, ap, sym, ◌∙◌, List, [], ◌∷◌, get_or}
use Rattle.std.specs.Prelude.{ℤ, Some}
use Rattle.std.specs.List.{AllZip}
use Rattle.pg_keyed.specs.Lists.{Each}
use Rattle.pg_value.specs.declared.value.Kind.{Kind}
use Rattle.pg_value.specs.declared.value.Kind.TheVariants as kinds
use Rattle.pg_value.specs.declared.value.Value.{Value}
use Rattle.pg_value.specs.declared.value.Value.TheVariants.{Null, Int, Text, Bool as Truth}
use Rattle.pg_value.specs.declared.value.Truth.{Truth as Logic}
use Rattle.pg_value.specs.declared.value.Truth.TheVariants as logic
use Rattle.pg_value.specs.declared.row.Row.{Row}
use Rattle.pg_value.specs.declared.shape.ColumnShape.{ColumnShape}
use Rattle.pg_value.specs.Kinds.{same_kind}
use Rattle.pg_value.specs.Tables.{FitsColumn}
use Rattle.pg_ast.specs.declared.expr.Name.{Name}
use Rattle.pg_ast.specs.declared.expr.UnOp.{UnOp}
use Rattle.pg_ast.specs.declared.expr.UnOp.TheVariants as un
use Rattle.pg_ast.specs.declared.expr.BinOp.{BinOp}
use Rattle.pg_ast.specs.declared.expr.BinOp.TheVariants as bin
use Rattle.pg_ast.specs.Trees.{ExprTree, Literal, Wide, ColumnOf, PropertyOf, One, Two, Group, Counted}
use Rattle.pg_meaning.specs.declared.checked.CExpr.{CExpr}
use Rattle.pg_meaning.specs.declared.checked.CExpr.TheVariants as checked
use Rattle.pg_meaning.specs.CExprs.{ctree_of, tree_unary, tree_binary}
use Rattle.pg_meaning.specs.Meaning.{OfRow, column_of, value_of, as_value, on_numbers, minus, unary, binary}
use Rattle.pg_meaning.specs.Sound.Kinds.{OfColumns, column_kind}
use Rattle.pg_meaning.specs.Typing.{Names, kind_of, may_be, value_kind, unary_kind, binary_kind}
use Rattle.pg_rules.specs.declared.entry.ColumnEntry.{ColumnEntry}
use Rattle.pg_rules.specs.Definitions.Tables.{place_of}
use Rattle.pg_rules.specs.Changes.{columns_in}
use Rattle.pg_rules.specs.Changes.InsertJudgement.{resolved}

pub false_true : {P : Type 0} → false ≡ true → P
false_true h = absurd cc

same_itself : (k : Kind) → same_kind k k ≡ true
same_itself kinds.Int = refl
same_itself kinds.Text = refl
same_itself kinds.Bool = refl

pub may_be_own : (k : Kind) → may_be k (Some k) ≡ true
may_be_own k = same_itself k

-- A VALUE IN A COLUMN

value_kept : (c : ColumnShape) (v : Value) (kind : Kind) → FitsColumn c v → may_be kind (Some c.kind) ≡ true → may_be kind (value_kind v) ≡ true
value_kept c Null kind f h = refl
value_kept c (Int n) kind f h = ap (same_kind kind) (sym f.0) ∙ h
value_kept c (Text t) kind f h = ap (same_kind kind) (sym f.0) ∙ h
value_kept c (Truth b) kind f h = ap (same_kind kind) (sym f) ∙ h

-- what a row that fits its columns holds at a place has the kind of the column there
pub column_kept : (cs : List ColumnShape) (vs : List Value) (p : ℕ) (kind : Kind) → AllZip FitsColumn cs vs → may_be kind (column_kind (OfColumns cs) p) ≡ true → may_be kind (value_kind (get_or vs p Null)) ≡ true
column_kept [] [] p kind f h = refl
column_kept [] (v ∷ vs) p kind f h = absurd f
column_kept (c ∷ cs) [] p kind f h = absurd f
column_kept (c ∷ cs) (v ∷ vs) zero kind f h = value_kept c v kind f.0 h
column_kept (c ∷ cs) (v ∷ vs) (suc p) kind f h = column_kept cs vs p kind f.1 h

-- THE KIND OF A VALUE

truth_kept : (kind : Kind) (t : Logic) → may_be kind (Some kinds.Bool) ≡ true → may_be kind (value_kind (as_value t)) ≡ true
truth_kept kind logic.True h = h
truth_kept kind logic.False h = h
truth_kept kind logic.Unknown h = refl

minus_kept : (kind : Kind) (v : Value) → may_be kind (Some kinds.Int) ≡ true → may_be kind (value_kind (minus v)) ≡ true
minus_kept kind Null h = refl
minus_kept kind (Int n) h = h
minus_kept kind (Text t) h = refl
minus_kept kind (Truth b) h = refl

numbers_kept : (kind : Kind) (f : ℤ → ℤ → ℤ) (u v : Value) → may_be kind (Some kinds.Int) ≡ true → may_be kind (value_kind (on_numbers f u v)) ≡ true
numbers_kept kind f Null v h = refl
numbers_kept kind f (Text t) v h = refl
numbers_kept kind f (Truth b) v h = refl
numbers_kept kind f (Int m) Null h = refl
numbers_kept kind f (Int m) (Int n) h = h
numbers_kept kind f (Int m) (Text t) h = refl
numbers_kept kind f (Int m) (Truth b) h = refl

unary_kept : (kind : Kind) (op : UnOp) (v : Value) → may_be kind (Some (unary_kind op)) ≡ true → may_be kind (value_kind (unary op v)) ≡ true
unary_kept kind un.Minus v h = minus_kept kind v h
unary_kept kind un.Not v h = truth_kept kind _ h
unary_kept kind un.IsNull v h = h
unary_kept kind un.IsNotNull v h = h

binary_kept : (kind : Kind) (op : BinOp) (u v : Value) → may_be kind (Some (binary_kind op)) ≡ true → may_be kind (value_kind (binary op u v)) ≡ true
binary_kept kind bin.Or u v h = truth_kept kind _ h
binary_kept kind bin.And u v h = truth_kept kind _ h
binary_kept kind bin.Eq u v h = truth_kept kind _ h
binary_kept kind bin.Ne u v h = truth_kept kind _ h
binary_kept kind bin.Lt u v h = truth_kept kind _ h
binary_kept kind bin.Le u v h = truth_kept kind _ h
binary_kept kind bin.Gt u v h = truth_kept kind _ h
binary_kept kind bin.Ge u v h = truth_kept kind _ h
binary_kept kind bin.Plus u v h = numbers_kept kind _ u v h
binary_kept kind bin.Minus u v h = numbers_kept kind _ u v h
binary_kept kind bin.Times u v h = numbers_kept kind _ u v h

-- THE VALUE OF AN EXPRESSION

-- over a row in which the columns that are named hold values of their kinds
module _ (columns : List ColumnEntry) (names : Names) (row : Row) (Stands : Name → Type 0)
    (reads : (n : Name) (kind : Kind) → Stands n → may_be kind (kind_of names (ColumnOf n)) ≡ true → may_be kind (value_kind (column_of (OfRow row) (place_of columns n))) ≡ true) where
  abbrev value : CExpr → Value
  value e = value_of (ctree_of e) (OfRow row)

  of_one : (op : UnOp) (e : CExpr) → value (checked.Unary op e) ≡ unary op (value e)
  of_one op e = ap (λ t. value_of t (OfRow row)) (tree_unary op e)

  of_two : (op : BinOp) (e k : CExpr) → value (checked.Binary op e k) ≡ binary op (value e) (value k)
  of_two op e k = ap (λ t. value_of t (OfRow row)) (tree_binary op e k)

  pub kind_kept : (kind : Kind) (t : ExprTree) → Each Stands (columns_in t) → may_be kind (kind_of names t) ≡ true → may_be kind (value_kind (value (resolved columns t))) ≡ true
  kind_kept kind (Literal v bits at) s h = h
  kind_kept kind (Wide at) s h = refl
  kind_kept kind (ColumnOf n) s h = reads n kind s.0 h
  kind_kept kind (PropertyOf v n) s h = refl
  kind_kept kind (One op x at) s h = ap (λ v. may_be kind (value_kind v)) (of_one op (resolved columns x)) ∙ unary_kept kind op (value (resolved columns x)) h
  kind_kept kind (Two op x y at) s h =
      ap (λ v. may_be kind (value_kind v)) (of_two op (resolved columns x) (resolved columns y)) ∙ binary_kept kind op (value (resolved columns x)) (value (resolved columns y)) h
  kind_kept kind (Group agg x at) s h = refl
  kind_kept kind (Counted v at) s h = refl
