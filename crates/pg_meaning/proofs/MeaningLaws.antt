-- What follows from the meaning of an expression.
use Rattle.std.proofs.Common.{◌≡◌, ◌==◌, ℕ, cond, List, [], ◌∷◌, map, length, pos, Contains, refl, ap, ap₂}
use Rattle.pg_value.specs.declared.shape.ElemId.{ElemId}
use Rattle.pg_value.specs.declared.value.Value.TheVariants.{Int}
use Rattle.pg_value.specs.declared.value.Truth.{Truth}
use Rattle.pg_value.specs.declared.value.Truth.TheVariants.{True, False, Unknown}
use Rattle.pg_value.specs.Tables.{Tables}
use Rattle.pg_meaning.specs.CExprs.{CTree, Literal, ColumnAt, PropertyOf, One, Two, Group, Counted}
use Rattle.pg_meaning.specs.Meaning.{Assignment, OfVars, as_value, as_truth, value_of, vars_of, property_first, values_over, aggregate, present, unary, binary}
use Rattle.pg_meaning.specs.Members.{in_here, in_left, in_right}

-- a truth value goes through a value unchanged
pub truth_kept : (t : Truth) → as_truth (as_value t) ≡ t
truth_kept True = refl
truth_kept False = refl
truth_kept Unknown = refl

-- the same variable set in two assignments
same_with : (x : ℕ) (e : ElemId) (f h : Assignment) (y : ℕ) → f y ≡ h y → cond (y == x) (e ∷ []) (f y) ≡ cond (y == x) (e ∷ []) (h y)
same_with x e f h y same = ap (cond (y == x) (e ∷ [])) same

-- only the variables of the expression are of account
pub same_value : (x : CTree) (tables : Tables) (f h : Assignment) → ((y : ℕ) → Contains (vars_of x) y → f y ≡ h y) → value_of x (OfVars tables f) ≡ value_of x (OfVars tables h)
same_value (Literal v) tables f h same = refl
same_value (ColumnAt c) tables f h same = refl
same_value (PropertyOf y columns) tables f h same = ap (λ es. property_first tables es columns) (same y (in_here y [] y refl))
same_value (One op x) tables f h same = ap (unary op) (same_value x tables f h same)
same_value (Two op x y) tables f h same =
    ap₂ (binary op) (same_value x tables f h (λ z c. same z (in_left (vars_of x) (vars_of y) z c))) (same_value y tables f h (λ z c. same z (in_right (vars_of x) (vars_of y) z c)))
same_value (Group agg x) tables f h same =
    ap (λ vs. aggregate agg (present vs)) (over (vars_of x) same (λ v e. same_value x tables (set v e f) (set v e h) (λ y c. same_with v e f h y (same y c))))
  where
    set : ℕ → ElemId → Assignment → Assignment
    set v e g y = cond (y == v) (e ∷ []) (g y)

    over : (vs : List ℕ) → ((y : ℕ) → Contains vs y → f y ≡ h y) → ((v : ℕ) (e : ElemId) → value_of x (OfVars tables (set v e f)) ≡ value_of x (OfVars tables (set v e h)))
        → values_over (λ s. value_of x s) (OfVars tables f) vs ≡ values_over (λ s. value_of x s) (OfVars tables h) vs
    over [] near each = refl
    over (v ∷ vs) near each = λ i. map (λ e. each v e i) (near v (in_here v vs v refl) i)
same_value (Counted y) tables f h same = ap (λ es. Int (pos (length es))) (same y (in_here y [] y refl))
