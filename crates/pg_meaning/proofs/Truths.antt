-- The tables of three-valued logic, comparisons with NULL and aggregates, as the definitions give them.
use Rattle.std.proofs.Common.{◌≡◌, ℕ, pos, negsuc, List, [], ◌∷◌, true, false, refl}
use Rattle.std.specs.Prelude.{Some, None}
use Rattle.pg_value.specs.declared.value.Value.{Value}
use Rattle.pg_value.specs.declared.value.Value.TheVariants.{Null, Int, Text, Bool as Truth'}
use Rattle.pg_ast.specs.declared.expr.UnOp.TheVariants.{Not, IsNull, IsNotNull}
use Rattle.pg_ast.specs.declared.expr.BinOp.{BinOp}
use Rattle.pg_ast.specs.declared.expr.BinOp.TheVariants.{Or, And, Eq, Ne, Lt, Le, Gt, Ge, Plus, Minus as Less', Times}
use Rattle.pg_ast.specs.declared.expr.Agg.TheVariants.{Count, Sum, Min, Max}
use Rattle.pg_meaning.specs.CExprs.{CTree, PropertyOf, Two, Group, Counted}
use Rattle.pg_meaning.specs.declared.checked.CExpr.TheVariants.{Lit}
use Rattle.pg_meaning.specs.Meaning.{IsTrueOf, Scope, OfVars, value_of, unary, binary}
use Rattle.pg_meaning.proofs.Social.{tables, knows}

abbrev yes' : Value
yes' = Truth' true

abbrev no' : Value
no' = Truth' false

-- every pair of TRUE, FALSE and NULL, in this order
abbrev table : BinOp → List Value
table op =
    binary op yes' yes' ∷ binary op yes' no' ∷ binary op yes' Null ∷
    binary op no' yes' ∷ binary op no' no' ∷ binary op no' Null ∷
    binary op Null yes' ∷ binary op Null no' ∷ binary op Null Null ∷ []

and_table : table And ≡ yes' ∷ no' ∷ Null ∷ no' ∷ no' ∷ no' ∷ Null ∷ no' ∷ Null ∷ []
and_table = refl

or_table : table Or ≡ yes' ∷ yes' ∷ yes' ∷ yes' ∷ no' ∷ Null ∷ yes' ∷ Null ∷ Null ∷ []
or_table = refl

not_table : unary Not yes' ∷ unary Not no' ∷ unary Not Null ∷ [] ≡ no' ∷ yes' ∷ Null ∷ []
not_table = refl

null_tests : unary IsNull Null ∷ unary IsNull (Int (pos 0)) ∷ unary IsNotNull Null ∷ unary IsNotNull no' ∷ [] ≡ yes' ∷ no' ∷ no' ∷ yes' ∷ []
null_tests = refl

-- the operators that give NULL where an operand is NULL
abbrev strict : Value → Value → List Value
strict u v = binary Eq u v ∷ binary Ne u v ∷ binary Lt u v ∷ binary Le u v ∷ binary Gt u v ∷ binary Ge u v ∷ binary Plus u v ∷ binary Less' u v ∷ binary Times u v ∷ []

abbrev nulls : List Value
nulls = Null ∷ Null ∷ Null ∷ Null ∷ Null ∷ Null ∷ Null ∷ Null ∷ Null ∷ []

null_left : (v : Value) → strict Null v ≡ nulls
null_left Null = refl
null_left (Int n) = refl
null_left (Text t) = refl
null_left (Truth' b) = refl

null_right : (v : Value) → strict v Null ≡ nulls
null_right Null = refl
null_right (Int n) = refl
null_right (Text t) = refl
null_right (Truth' b) = refl

-- 2 against 3, and 3 against itself
abbrev of_numbers : ℕ → ℕ → List Value
of_numbers m n = strict (Int (pos m)) (Int (pos n))

two_three : of_numbers 2 3 ≡ no' ∷ yes' ∷ yes' ∷ yes' ∷ no' ∷ no' ∷ Int (pos 5) ∷ Int (negsuc 0) ∷ Int (pos 6) ∷ []
two_three = refl

three_three : of_numbers 3 3 ≡ yes' ∷ no' ∷ no' ∷ yes' ∷ no' ∷ yes' ∷ Int (pos 6) ∷ Int (pos 0) ∷ Int (pos 9) ∷ []
three_three = refl

-- aggregates over nothing, and over NULL alone
abbrev all_of : Scope → CTree → List Value
all_of scope x = value_of (Group Count x) scope ∷ value_of (Group Sum x) scope ∷ value_of (Group Min x) scope ∷ value_of (Group Max x) scope ∷ []

abbrev stands_for : List ℕ → Scope
stands_for [] = OfVars tables (λ x. [])
stands_for (e ∷ []) = OfVars tables (λ x. knows e ∷ [])
stands_for (e ∷ f ∷ es) = OfVars tables (λ x. knows e ∷ knows f ∷ [])

-- e.w, and a property that the edges' table has not
abbrev weight : CTree
weight = PropertyOf 0 (None ∷ Some 3 ∷ [])

abbrev missing : CTree
missing = PropertyOf 0 (Some 1 ∷ None ∷ [])

over_nothing : all_of (stands_for []) weight ≡ Int (pos 0) ∷ Null ∷ Null ∷ Null ∷ []
over_nothing = refl

over_null : all_of (stands_for (1 ∷ 4 ∷ [])) missing ≡ Int (pos 0) ∷ Null ∷ Null ∷ Null ∷ []
over_null = refl

-- the weights 1 and 4
over_two : all_of (stands_for (1 ∷ 4 ∷ [])) weight ≡ Int (pos 2) ∷ Int (pos 5) ∷ Int (pos 1) ∷ Int (pos 4) ∷ []
over_two = refl

-- SUM(e.w * e.w)
squares : value_of (Group Sum (Two Times weight weight)) (stands_for (1 ∷ 4 ∷ [])) ≡ Int (pos 17)
squares = refl

-- COUNT(e) counts elements, with NULL or not
elements_counted : value_of (Counted 0) (stands_for (1 ∷ 4 ∷ [])) ≡ Int (pos 2)
elements_counted = refl

none_counted : value_of (Counted 0) (stands_for []) ≡ Int (pos 0)
none_counted = refl

-- WHERE keeps neither what is unknown nor what is false
unknown_dropped : (scope : Scope) → IsTrueOf (Lit Null) scope → ⊥
unknown_dropped scope h = cc

false_dropped : (scope : Scope) → IsTrueOf (Lit no') scope → ⊥
false_dropped scope h = cc

true_kept : (scope : Scope) → IsTrueOf (Lit yes') scope
true_kept scope = refl
