-- The comparison of two values, which is unknown where one of them is NULL (ISO/IEC 9075-2:2023, 8.2).
use Rattle.std.specs.Prelude.{Bool, true, false, cond, not, ◌||◌}
use Rattle.std.specs.declared.cmp.Ordering.{Ordering}
use Rattle.std.specs.Ordering.{is_eq, is_lt, is_gt}
use Rattle.pg_value.specs.declared.value.Value.{Value}
use Rattle.pg_value.specs.declared.value.Value.TheVariants.{Null, Int, Text, Bool as BoolV}
use Rattle.pg_value.specs.declared.value.Truth.{Truth}
use Rattle.pg_value.specs.declared.value.Truth.TheVariants.{True, False, Unknown}
use Rattle.pg_value.specs.declared.value.Cmp.{Cmp}
use Rattle.pg_value.specs.declared.value.Cmp.TheVariants.{Eq, Ne, Lt, Le, Gt, Ge}
use Rattle.pg_value.specs.Order.{value_cmp}

abbrev pub is_null : Value → Bool
is_null Null = true
is_null (Int n) = false
is_null (Text t) = false
is_null (BoolV b) = false

abbrev pub truth_of : Bool → Truth
truth_of true = True
truth_of false = False

-- whether an order of two values meets the operator
abbrev pub meets : Cmp → Ordering → Bool
meets Eq order = is_eq order
meets Ne order = not (is_eq order)
meets Lt order = is_lt order
meets Le order = not (is_gt order)
meets Gt order = is_gt order
meets Ge order = not (is_lt order)

abbrev pub compare : Cmp → Value → Value → Truth
compare op a b = cond (is_null a || is_null b) Unknown (truth_of (meets op (value_cmp a b)))
