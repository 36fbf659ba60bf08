-- What evaluation needs to know of an expression: no number that comes up in it is too wide.
use Rattle.std.specs.Prelude.{ℕ, ◌≡◌, Bool, true, false, take, slice_get, Some}
use Rattle.pg_value.specs.declared.shape.ElemId.{ElemId}
use Rattle.pg_ast.specs.declared.expr.Agg.{Agg}
use Rattle.pg_meaning.specs.CExprs.{CTree, Literal, ColumnAt, PropertyOf, One, Two, Group, Counted}
use Rattle.pg_meaning.specs.Typing.{widest}
use Rattle.pg_meaning.specs.Meaning.{Scope, present, aggregate, vars_of, elems_of, with_elem, value_of}
use Rattle.pg_meaning.specs.Sound.Kinds.{IsWithin}
use Rattle.pg_expr.specs.References.{values_at}

-- the aggregate over the first elements of the variable is not too wide, however many these are
abbrev pub FrontsAreNarrow : Agg → CTree → Scope → ℕ → Type 0
FrontsAreNarrow agg x scope v = (k : ℕ) → IsWithin widest (aggregate agg (present (values_at x scope v (take k (elems_of scope v)))))

-- Each operator's value has at most 126 binary digits, and so has each aggregate over the first elements of its variable. Aggregates
-- stand in it only where they may, and in none of them another.
abbrev pub IsEvaluable : Bool → CTree → Scope → Type 0
IsEvaluable groups (Literal v) scope = Unit {0}
IsEvaluable groups (ColumnAt c) scope = Unit {0}
IsEvaluable groups (PropertyOf x places) scope = Unit {0}
IsEvaluable groups (One op x) scope = IsWithin widest (value_of (One op x) scope) × IsEvaluable groups x scope
IsEvaluable groups (Two op x y) scope = IsWithin widest (value_of (Two op x y) scope) × IsEvaluable groups x scope × IsEvaluable groups y scope
IsEvaluable groups (Group agg x) scope =
    (groups ≡ true)
    × ((v : ℕ) → slice_get (vars_of x) 0 ≡ Some v → FrontsAreNarrow agg x scope v)
    × ((v : ℕ) (e : ElemId) → IsEvaluable false x (with_elem scope v e))
IsEvaluable groups (Counted x) scope = Unit {0}

-- the same of an aggregate over a variable, and of its argument
pub record IsGroupEvaluable (agg : Agg) (x : CTree) (scope : Scope) (v : ℕ) : Type 0 where
  pub fronts : FrontsAreNarrow agg x scope v
  pub parts : (e : ElemId) → IsEvaluable false x (with_elem scope v e)
