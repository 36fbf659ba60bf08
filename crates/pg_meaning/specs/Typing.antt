-- The kinds and widths of expressions as they are written, and the kinds that operators and aggregates take.
use Rattle.std.specs.Prelude.{ℕ, ◌+◌, ◌&&◌, Bool, true, max, nat_lt, List}
use Rattle.std.specs.declared.option.Option.{Option}
use Rattle.std.specs.declared.option.Option.TheVariants.{Some, None}
use Rattle.std.specs.Option.{option_map}
use Rattle.pg_value.specs.declared.value.Kind.{Kind}
use Rattle.pg_value.specs.declared.value.Kind.TheVariants as kinds
use Rattle.pg_value.specs.declared.value.Value.{Value}
use Rattle.pg_value.specs.declared.value.Value.TheVariants.{Null, Int, Text, Bool as Truth'}
use Rattle.pg_ast.specs.declared.expr.UnOp.{UnOp}
use Rattle.pg_ast.specs.declared.expr.UnOp.TheVariants.{Minus, Not, IsNull, IsNotNull}
use Rattle.pg_ast.specs.declared.expr.BinOp.{BinOp}
use Rattle.pg_ast.specs.declared.expr.BinOp.TheVariants as bin
use Rattle.pg_ast.specs.declared.expr.Agg.{Agg}
use Rattle.pg_ast.specs.declared.expr.Agg.TheVariants.{Count, Sum, Min, Max}
use Rattle.pg_ast.specs.Trees.{ExprTree, Literal, Wide, ColumnOf, PropertyOf, One, Two, Group, Counted}
use Rattle.pg_value.specs.Kinds.{same_kind}

-- THE SCOPE OF NAMES

-- the kind of what a name stands for, and the width of its numbers
pub record Typed : Type 0 where
  pub kind : Kind
  pub width : ℕ

-- the width of the numbers in a column
abbrev pub bits_of : Kind → ℕ
bits_of kinds.Int = 31
bits_of kinds.Text = 0
bits_of kinds.Bool = 0

-- a column of this kind
abbrev pub typed : Kind → Typed
typed kind = record { kind = kind; width = bits_of kind }

-- what names stand for: a name alone is a column of the table that is changed, and one behind a variable is a property of its elements
abbrev pub Names : Type 0
Names = Option (List ℕ) → List ℕ → Option Typed

-- where no name may stand
abbrev pub no_names : Names
no_names variable name = None

-- KINDS

-- None where any kind may be meant, as for NULL

abbrev pub value_kind : Value → Option Kind
value_kind Null = None
value_kind (Int n) = Some kinds.Int
value_kind (Text t) = Some kinds.Text
value_kind (Truth' b) = Some kinds.Bool

abbrev pub unary_kind : UnOp → Kind
unary_kind Minus = kinds.Int
unary_kind _ = kinds.Bool

abbrev pub binary_kind : BinOp → Kind
binary_kind bin.Plus = kinds.Int
binary_kind bin.Minus = kinds.Int
binary_kind bin.Times = kinds.Int
binary_kind _ = kinds.Bool

-- MIN and MAX keep their argument's kind
abbrev pub agg_kind : Agg → Option Kind → Option Kind
agg_kind Count k = Some kinds.Int
agg_kind Sum k = Some kinds.Int
agg_kind Min k = k
agg_kind Max k = k

abbrev pub kind_of : Names → ExprTree → Option Kind
kind_of scope (Literal v bits at) = value_kind v
kind_of scope (Wide at) = Some kinds.Int
kind_of scope (ColumnOf n) = option_map (λ t. t.kind) (scope None n.text)
kind_of scope (PropertyOf v n) = option_map (λ t. t.kind) (scope (Some v.text) n.text)
kind_of scope (One op x at) = Some (unary_kind op)
kind_of scope (Two op x y at) = Some (binary_kind op)
kind_of scope (Group agg x at) = agg_kind agg (kind_of scope x)
kind_of scope (Counted v at) = Some kinds.Int

-- WIDTHS

-- a number's size is at most 2 ^ its width, and no width is above this

abbrev pub widest : ℕ
widest = 126

abbrev pub too_wide : ℕ → Bool
too_wide w = nat_lt widest w

-- the width of a number that no value holds: it is above the widest, and nothing more is asked of it
abbrev pub beyond_all : ℕ
beyond_all = 129

abbrev pub width_named : Option Typed → ℕ
width_named None = 0
width_named (Some t) = t.width

abbrev pub unary_width : UnOp → ℕ → ℕ
unary_width Minus w = w
unary_width _ w = 0

abbrev pub binary_width : BinOp → ℕ → ℕ → ℕ
binary_width bin.Plus v w = max v w + 1
binary_width bin.Minus v w = max v w + 1
binary_width bin.Times v w = v + w
binary_width _ v w = 0

-- the width of a count of elements
abbrev pub count_width : ℕ
count_width = 48

abbrev pub agg_width : Agg → ℕ → ℕ
agg_width Count w = count_width
agg_width Sum w = w + count_width
agg_width Min w = w
agg_width Max w = w

abbrev pub width_of : Names → ExprTree → ℕ
width_of scope (Literal v bits at) = bits
width_of scope (Wide at) = beyond_all
width_of scope (ColumnOf n) = width_named (scope None n.text)
width_of scope (PropertyOf v n) = width_named (scope (Some v.text) n.text)
width_of scope (One op x at) = unary_width op (width_of scope x)
width_of scope (Two op x y at) = binary_width op (width_of scope x) (width_of scope y)
width_of scope (Group agg x at) = agg_width agg (width_of scope x)
width_of scope (Counted v at) = count_width

-- KINDS THAT OPERATORS AND AGGREGATES TAKE

-- it may have this kind
abbrev pub may_be : Kind → Option Kind → Bool
may_be k None = true
may_be k (Some j) = same_kind k j

-- both may have one kind
abbrev pub may_agree : Option Kind → Option Kind → Bool
may_agree None k = true
may_agree (Some j) k = may_be j k

abbrev pub unary_takes : UnOp → Option Kind → Bool
unary_takes Minus k = may_be kinds.Int k
unary_takes Not k = may_be kinds.Bool k
unary_takes IsNull k = true
unary_takes IsNotNull k = true

abbrev pub binary_takes : BinOp → Option Kind → Option Kind → Bool
binary_takes bin.Or j k = may_be kinds.Bool j && may_be kinds.Bool k
binary_takes bin.And j k = may_be kinds.Bool j && may_be kinds.Bool k
binary_takes bin.Plus j k = may_be kinds.Int j && may_be kinds.Int k
binary_takes bin.Minus j k = may_be kinds.Int j && may_be kinds.Int k
binary_takes bin.Times j k = may_be kinds.Int j && may_be kinds.Int k
binary_takes _ j k = may_agree j k

abbrev pub agg_takes : Agg → Option Kind → Bool
agg_takes Sum k = may_be kinds.Int k
agg_takes _ k = true
