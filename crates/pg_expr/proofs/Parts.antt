-- The parts of an expression: what is known of each, and how their values make its own.
use Rattle.std.proofs.Common.{◌≡◌, ◌<◌, ◌+◌, ℕ, Bool, true, false, not, is_some, List, [], ◌∷◌, ◌++◌, refl, ap, ap₂, sym, subst, ◌∙◌, arith}
use Rattle.std.specs.Prelude.{slice_get}
use Rattle.std.specs.declared.option.Option.{Option}
use Rattle.std.specs.declared.option.Option.TheVariants.{Some, None}
use Rattle.pg_value.specs.declared.value.Value.{Value}
use Rattle.pg_value.specs.declared.value.Value.TheVariants.{Bool as Truth'}
use Rattle.pg_ast.specs.declared.expr.UnOp.{UnOp}
use Rattle.pg_ast.specs.declared.expr.BinOp.{BinOp}
use Rattle.pg_ast.specs.declared.expr.Agg.{Agg as AggName}
use Rattle.pg_meaning.specs.declared.checked.CExpr.{CExpr}
use Rattle.pg_meaning.specs.declared.checked.CExpr.TheVariants.{Unary, Binary, Agg}
use Rattle.pg_meaning.specs.CExprs.{CTree, Literal, ColumnAt, PropertyOf, One, Two, Group, Counted, ctree_of, is_unary, is_binary, is_agg}
use Rattle.pg_meaning.specs.Typing.{widest}
use Rattle.pg_meaning.specs.Meaning.{Scope, unary, binary, aggregate, present, elems_of, value_of, values_over, vars_of}
use Rattle.pg_meaning.specs.Sound.Kinds.{IsWithin}
use Rattle.pg_expr.specs.declared.references.Chosen.{Chosen}
use Rattle.pg_expr.specs.Evaluable.{IsEvaluable, IsGroupEvaluable}
use Rattle.pg_expr.specs.References.{chosen_in, values_at}

-- THE FIRST VARIABLE

abbrev pub first_var : CExpr → Option ℕ
first_var e = slice_get (vars_of (ctree_of e)) 0

first_behind : (xs ys : List ℕ) → slice_get xs 0 ≡ None → slice_get ys 0 ≡ slice_get (xs ++ ys) 0
first_behind [] ys h = refl
first_behind (x ∷ xs) ys h = cc

first_front : (xs ys : List ℕ) → (slice_get xs 0 ≡ None → ⊥) → slice_get xs 0 ≡ slice_get (xs ++ ys) 0
first_front [] ys h = absurd (h refl)
first_front (x ∷ xs) ys h = refl

pub first_right : (e : CExpr) (op : BinOp) (x y : CExpr) → e ≡ Binary op x y → first_var x ≡ None → first_var y ≡ first_var e
first_right e op x y h n = first_behind (vars_of (ctree_of x)) (vars_of (ctree_of y)) n ∙ sym (ap (λ t. slice_get (vars_of t) 0) (is_binary e op x y h))

pub first_left : (e : CExpr) (op : BinOp) (x y : CExpr) → e ≡ Binary op x y → (first_var x ≡ None → ⊥) → first_var x ≡ first_var e
first_left e op x y h n = first_front (vars_of (ctree_of x)) (vars_of (ctree_of y)) n ∙ sym (ap (λ t. slice_get (vars_of t) 0) (is_binary e op x y h))

-- DEPTHS

-- how deep an expression is, two for each operator
abbrev pub depth : CTree → ℕ
depth (Literal v) = 0
depth (ColumnAt c) = 0
depth (PropertyOf x places) = 0
depth (One op x) = depth x + 2
depth (Two op x y) = depth x + depth y + 2
depth (Group agg x) = depth x + 2
depth (Counted x) = 0

pub below_unary : (e : CExpr) (op : UnOp) (x : CExpr) → e ≡ Unary op x → depth (ctree_of x) < depth (ctree_of e)
below_unary e op x h = let k = ap depth (is_unary e op x h) in omega (arith, k)

pub below_binary : (e : CExpr) (op : BinOp) (x y : CExpr) → e ≡ Binary op x y → (depth (ctree_of x) < depth (ctree_of e)) × (depth (ctree_of y) < depth (ctree_of e))
below_binary e op x y h = let k = ap depth (is_binary e op x y h) in (omega (arith, k), omega (arith, k))

pub below_agg : (e : CExpr) (agg : AggName) (x : CExpr) → e ≡ Agg agg x → depth (ctree_of x) + 1 < depth (ctree_of e)
below_agg e agg x h = let k = ap depth (is_agg e agg x h) in omega (arith, k)

-- OPERANDS

pub of_unary : (groups : Bool) (scope : Scope) (e : CExpr) (op : UnOp) (x : CExpr) → e ≡ Unary op x → IsEvaluable groups (ctree_of e) scope → IsEvaluable groups (ctree_of x) scope
of_unary groups scope e op x h k = (subst (λ t. IsEvaluable groups t scope) (is_unary e op x h) k).1

pub of_binary : (groups : Bool) (scope : Scope) (e : CExpr) (op : BinOp) (x y : CExpr) → e ≡ Binary op x y → IsEvaluable groups (ctree_of e) scope
    → IsWithin widest (value_of (Two op (ctree_of x) (ctree_of y)) scope) × IsEvaluable groups (ctree_of x) scope × IsEvaluable groups (ctree_of y) scope
of_binary groups scope e op x y h k = subst (λ t. IsEvaluable groups t scope) (is_binary e op x y h) k

-- what was evaluated at a reference to an operand is the operand's value
pub operand_value : (scope : Scope) (x d : CExpr) (u w : Value) → u ≡ w → w ≡ value_of (ctree_of d) scope → d ≡ x → u ≡ value_of (ctree_of x) scope
operand_value scope x d u w a b c = a ∙ b ∙ ap (λ e. value_of (ctree_of e) scope) c

-- an operand with the value of its side
pub one_value : (scope : Scope) (e : CExpr) (op : UnOp) (x : CExpr) (u w : Value) → e ≡ Unary op x → u ≡ value_of (ctree_of x) scope → w ≡ unary op u → w ≡ value_of (ctree_of e) scope
one_value scope e op x u w h a r = r ∙ ap (unary op) a ∙ sym (ap (λ t. value_of t scope) (is_unary e op x h))

-- operands with the values of both sides
pub both_values : (scope : Scope) (e : CExpr) (op : BinOp) (x y : CExpr) (u v w : Value) → e ≡ Binary op x y → u ≡ value_of (ctree_of x) scope → v ≡ value_of (ctree_of y) scope
    → w ≡ binary op u v → w ≡ value_of (ctree_of e) scope
both_values scope e op x y u v w h a b r = r ∙ ap₂ (binary op) a b ∙ sym (ap (λ t. value_of t scope) (is_binary e op x y h))

pub both_within : (groups : Bool) (scope : Scope) (e : CExpr) (op : BinOp) (x y : CExpr) (u v : Value) → e ≡ Binary op x y → u ≡ value_of (ctree_of x) scope → v ≡ value_of (ctree_of y) scope
    → IsEvaluable groups (ctree_of e) scope → IsWithin widest (binary op u v)
both_within groups scope e op x y u v h a b k = subst (IsWithin widest) (sym (ap₂ (binary op) a b)) (of_binary groups scope e op x y h k).0

-- a value that the left side settles
pub left_settles : (scope : Scope) (e : CExpr) (op : BinOp) (x y : CExpr) (u : Value) (b : Bool) → e ≡ Binary op x y → u ≡ value_of (ctree_of x) scope
    → ((right : Value) → binary op u right ≡ Truth' b) → Truth' b ≡ value_of (ctree_of e) scope
left_settles scope e op x y u b h a fixed = both_values scope e op x y u (value_of (ctree_of y) scope) (Truth' b) h a refl (sym (fixed (value_of (ctree_of y) scope)))

-- AGGREGATES

-- the values of the argument are those at the elements of its first variable
pub over_first : (x : CTree) (scope : Scope) (vs : List ℕ) (v : ℕ) → slice_get vs 0 ≡ Some v → values_over (λ s. value_of x s) scope vs ≡ values_at x scope v (elems_of scope v)
over_first x scope [] v h = cc
over_first x scope (w ∷ vs) v h = let e : w ≡ v = cc in ap (λ v. values_at x scope v (elems_of scope v)) e

true_false : false ≡ true → ⊥
true_false h = cc

pub group_evaluable : (chosen : Option Chosen) (scope : Scope) (e : CExpr) (agg : AggName) (x : CExpr) (v : ℕ) → e ≡ Agg agg x → IsEvaluable (not (is_some chosen)) (ctree_of e) (chosen_in chosen scope)
    → first_var x ≡ Some v → IsGroupEvaluable agg (ctree_of x) scope v
group_evaluable None scope e agg x v h k first =
    let g = subst (λ t. IsEvaluable true t scope) (is_agg e agg x h) k in
    record { fronts = g.1 v first; parts = λ elem. g.2 v elem }
group_evaluable (Some c) scope e agg x v h k first = absurd (true_false (subst (λ t. IsEvaluable false t (chosen_in (Some c) scope)) (is_agg e agg x h) k).0)

pub group_value : (chosen : Option Chosen) (scope : Scope) (e : CExpr) (agg : AggName) (x d : CExpr) (v : ℕ) (w : Value) → e ≡ Agg agg x
    → IsEvaluable (not (is_some chosen)) (ctree_of e) (chosen_in chosen scope) → first_var x ≡ Some v → d ≡ x
    → w ≡ aggregate agg (present (values_at (ctree_of d) scope v (elems_of scope v))) → w ≡ value_of (ctree_of e) (chosen_in chosen scope)
group_value None scope e agg x d v w h k first own r =
    r
    ∙ ap (λ d. aggregate agg (present (values_at (ctree_of d) scope v (elems_of scope v)))) own
    ∙ ap (λ values. aggregate agg (present values)) (sym (over_first (ctree_of x) scope (vars_of (ctree_of x)) v first))
    ∙ sym (ap (λ t. value_of t scope) (is_agg e agg x h))
group_value (Some c) scope e agg x d v w h k first own r = absurd (true_false (subst (λ t. IsEvaluable false t (chosen_in (Some c) scope)) (is_agg e agg x h) k).0)
