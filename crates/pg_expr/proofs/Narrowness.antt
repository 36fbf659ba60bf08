-- No number that comes up in a sound expression is too wide, over what fits its frame in the variables that may stand in it.
use Rattle.std.proofs.Common.{◌≡◌, ◌==◌, ◌<◌, ◌≤◌, ◌^◌, ℕ, zero, suc, Bool, true, false, cond, List, [], ◌∷◌, ◌++◌, map, length, take, Contains, inl, inr, refl, ap, ap₂, sym, subst, ◌∙◌, arith, lit<}
use Rattle.std.specs.Prelude.{slice_get, Option, Some, None, IfSome}
use Rattle.std.proofs.Math.Nat.{pow-le-pow_right}
use Rattle.std.proofs.lemmas.Bool.{eq-eqb}
use Rattle.pg_value.specs.declared.value.Value.{Value}
use Rattle.pg_value.specs.declared.value.Value.TheVariants.{Null, Int, Text, Bool as Truth'}
use Rattle.pg_value.specs.declared.row.Row.{Row}
use Rattle.pg_value.specs.declared.shape.ElemId.{ElemId}
use Rattle.pg_value.specs.declared.shape.Shapes.{Shapes}
use Rattle.pg_value.specs.Tables.{Tables, FitTables}
use Rattle.pg_ast.specs.declared.expr.Agg.{Agg}
use Rattle.pg_meaning.specs.declared.checked.CExpr.{CExpr}
use Rattle.pg_meaning.specs.declared.checked.Slot.{Slot}
use Rattle.pg_meaning.specs.declared.checked.Slot.TheVariants.{One as OneElem, Many}
use Rattle.pg_meaning.specs.declared.checked.Bound.{Bound}
use Rattle.pg_meaning.specs.CExprs.{CTree, Literal, ColumnAt, PropertyOf, One, Two, Group, Counted, ctree_of}
use Rattle.pg_meaning.specs.Typing.{count_width, widest}
use Rattle.pg_meaning.specs.Meaning.{Assignment, Scope, OfRow, OfVars, aggregate, present, elems_of, with_elem, values_over, vars_of, value_of, unary, binary}
use Rattle.pg_meaning.specs.Mentions.{Degree, Singleton, Grouped}
use Rattle.pg_meaning.specs.Members.{in_nil, in_one, in_append, in_left, in_right}
use Rattle.pg_meaning.specs.Answers.{bound_to, slot_elems}
use Rattle.pg_meaning.specs.Sound.{Degrees, Binds, IsOf, IsNarrow, Reads, IsSoundTree}
use Rattle.pg_meaning.specs.Sound.Kinds.{Frame, OfColumns, OfTables, Fit, IsWithin, ValuesAreWithin, width_in}
use Rattle.pg_meaning.specs.Sound.Changes.{no_variables}
use Rattle.pg_meaning.specs.Sound.Queries.{FitsSlot}
use Rattle.pg_expr.specs.declared.mentions.Mention.{Mention as HeldMention}
use Rattle.pg_expr.specs.Conditions.{IsCheckedForRow, IsCheckedForBound, IsCheckedForOnes}
use Rattle.pg_expr.specs.Mentions.{mention_view, stood_for}
use Rattle.pg_expr.specs.Evaluable.{IsEvaluable, FrontsAreNarrow}
use Rattle.pg_expr.specs.References.{values_at}
use Rattle.pg_expr.proofs.Ones.{at_most_one}
use Rattle.pg_expr.proofs.Parts.{over_first}

-- WIDTHS

within_more : (w : ℕ) (v : Value) → w ≤ widest → IsWithin w v → IsWithin widest v
within_more w Null h k = tt
within_more w (Text t) h k = tt
within_more w (Truth' b) h k = tt
within_more w (Int n) h k = let p : 2 ^ w ≤ 2 ^ widest = pow-le-pow_right {n = 2} (lit< tt) {i = w} {j = widest} h in omega (arith, p, k)

top_narrow : (frame : Frame) (x : CTree) → IsNarrow frame x → width_in frame x ≤ widest
top_narrow frame (Literal v) h = h
top_narrow frame (ColumnAt c) h = h
top_narrow frame (PropertyOf x places) h = h
top_narrow frame (One op x) h = h.0
top_narrow frame (Two op x y) h = h.0
top_narrow frame (Group agg x) h = h.0
top_narrow frame (Counted x) h = h

-- AGGREGATES STAND IN NO AGGREGATE

abbrev Nests : Bool → CTree → Type 0
Nests groups (Literal v) = Unit {0}
Nests groups (ColumnAt c) = Unit {0}
Nests groups (PropertyOf x places) = Unit {0}
Nests groups (One op x) = Nests groups x
Nests groups (Two op x y) = Nests groups x × Nests groups y
Nests groups (Group agg x) = (groups ≡ true) × Nests false x
Nests groups (Counted x) = Unit {0}

argument_nests : (v : ℕ) (x : CTree) → IsOf v x → Nests false x
argument_nests v (Literal u) h = tt
argument_nests v (ColumnAt c) h = tt
argument_nests v (PropertyOf x places) h = tt
argument_nests v (One op x) h = argument_nests v x h
argument_nests v (Two op x y) h = (argument_nests v x h.0, argument_nests v y h.1)
argument_nests v (Group agg x) h = absurd h
argument_nests v (Counted x) h = tt

nests : (degrees : Degrees) (x : CTree) → Binds degrees x → Nests true x
nests degrees (Literal v) h = tt
nests degrees (ColumnAt c) h = tt
nests degrees (PropertyOf x places) h = tt
nests degrees (One op x) h = nests degrees x h
nests degrees (Two op x y) h = (nests degrees x h.0, nests degrees y h.1)
nests degrees (Group agg x) h = (refl, argument_nests h.variable x h.alone)
nests degrees (Counted x) h = tt

-- VARIABLES THAT MAY STAND IN AN EXPRESSION

-- each of its variables has a degree
abbrev HaveDegrees : Degrees → CTree → Type 0
HaveDegrees degrees x = (y : ℕ) → Contains (vars_of x) y → (d : Degree) × (degrees y ≡ Some d)

no_degrees : (degrees : Degrees) (y : ℕ) → Contains [] y → (d : Degree) × (degrees y ≡ Some d)
no_degrees degrees y c = absurd (in_nil y c)

one_degree : (degrees : Degrees) (v : ℕ) (d : Degree) → degrees v ≡ Some d → (y : ℕ) → Contains (v ∷ []) y → (d : Degree) × (degrees y ≡ Some d)
one_degree degrees v d e y c = (d, ap degrees (sym (in_one v y c)) ∙ e)

both_degrees : (degrees : Degrees) (x y : CTree) → HaveDegrees degrees x → HaveDegrees degrees y → (z : ℕ) → Contains (vars_of x ++ vars_of y) z → (d : Degree) × (degrees z ≡ Some d)
both_degrees degrees x y h k z c = elim (in_append (vars_of x) (vars_of y) z c) [ inl a ↦ h z a | inr b ↦ k z b ]

argument_degrees : (degrees : Degrees) (v : ℕ) (d : Degree) → degrees v ≡ Some d → (x : CTree) → IsOf v x → HaveDegrees degrees x
argument_degrees degrees v d e (Literal u) h = no_degrees degrees
argument_degrees degrees v d e (ColumnAt c) h = no_degrees degrees
argument_degrees degrees v d e (PropertyOf x places) h = one_degree degrees x d (ap degrees h ∙ e)
argument_degrees degrees v d e (One op x) h = argument_degrees degrees v d e x h
argument_degrees degrees v d e (Two op x y) h = both_degrees degrees x y (argument_degrees degrees v d e x h.0) (argument_degrees degrees v d e y h.1)
argument_degrees degrees v d e (Group agg x) h = absurd h
argument_degrees degrees v d e (Counted x) h = absurd h

have_degrees : (degrees : Degrees) (x : CTree) → Binds degrees x → HaveDegrees degrees x
have_degrees degrees (Literal v) h = no_degrees degrees
have_degrees degrees (ColumnAt c) h = no_degrees degrees
have_degrees degrees (PropertyOf x places) h = one_degree degrees x Singleton h
have_degrees degrees (One op x) h = have_degrees degrees x h
have_degrees degrees (Two op x y) h = both_degrees degrees x y (have_degrees degrees x h.0) (have_degrees degrees y h.1)
have_degrees degrees (Group agg x) h = argument_degrees degrees h.variable Grouped h.grouped x h.alone
have_degrees degrees (Counted x) h = one_degree degrees x Grouped h

-- what variables without a degree stand for is of no account
abbrev kept_if : Option Degree → List ElemId → List ElemId
kept_if None es = []
kept_if (Some d) es = es

abbrev kept : Degrees → Scope → Scope
kept degrees (OfRow row) = OfRow row
kept degrees (OfVars tables f) = OfVars tables (λ y. kept_if (degrees y) (f y))

-- the two laws of `pg_meaning` on which this stands
abbrev pub ByVariables : Type 0
ByVariables = (x : CTree) (tables : Tables) (f h : Assignment) → ((y : ℕ) → Contains (vars_of x) y → f y ≡ h y) → value_of x (OfVars tables f) ≡ value_of x (OfVars tables h)

-- SHORT LISTS

abbrev no_elems : List ElemId
no_elems = []

take_nothing : (k : ℕ) → take k no_elems ≡ no_elems
take_nothing zero = refl
take_nothing (suc k) = refl

-- a choice by one test within another choice by it
twice : (xs ys zs : List ElemId) (b : Bool) → cond b xs (cond b ys zs) ≡ cond b xs zs
twice xs ys zs true = refl
twice xs ys zs false = refl

no_longer : (k : ℕ) (es : List ElemId) → length (take k es) ≤ length es
no_longer zero es = omega arith
no_longer (suc k) [] = omega arith
no_longer (suc k) (e ∷ es) = let r = no_longer k es in omega (arith, r)

short_front : (k : ℕ) (es : List ElemId) (d : Option Degree) (b : Bool) → length (kept_if d es) < 2 ^ count_width → length (kept_if d (cond b (take k es) es)) < 2 ^ count_width
short_front k es None b h = lit< tt
short_front k es (Some d) true h = let l = no_longer k es in omega (arith, h, l)
short_front k es (Some d) false h = h

short_elem : (e : ElemId) (es : List ElemId) (d : Option Degree) (b : Bool) → length (kept_if d es) < 2 ^ count_width → length (kept_if d (cond b (e ∷ []) es)) < 2 ^ count_width
short_elem e es None b h = lit< tt
short_elem e es (Some d) true h = lit< tt
short_elem e es (Some d) false h = h

short_slot : (tables : Tables) (bound : Bound) (y : ℕ) (d : Option Degree) → IfSome d (λ d. (s : Slot) × (slice_get bound.vars y ≡ Some s) × FitsSlot tables d s)
    → length (kept_if d (bound_to bound y)) < 2 ^ count_width
short_slot tables bound y None h = lit< tt
short_slot tables bound y (Some d) h = subst (λ o. length (slot_elems o) < 2 ^ count_width) (sym h.1) (go d h.0 h.2)
  where
    go : (d : Degree) (s : Slot) → FitsSlot tables d s → length (slot_elems (Some s)) < 2 ^ count_width
    go Singleton (OneElem e) h = lit< tt
    go Singleton (Many es) h = absurd h
    go Grouped (OneElem e) h = absurd h
    go Grouped (Many es) h = h.1

-- WHERE NO COLUMN IS READ

abbrev no_row : Row
no_row = record { values = [] }

no_columns : (row : Row) (x : CTree) → Reads (OfColumns []) x → value_of x (OfRow no_row) ≡ value_of x (OfRow row)
no_columns row (Literal v) h = refl
no_columns row (ColumnAt c) h = absurd (omega (arith, h))
no_columns row (PropertyOf x places) h = absurd h
no_columns row (One op x) h = ap (unary op) (no_columns row x h)
no_columns row (Two op x y) h = ap₂ (binary op) (no_columns row x h.0) (no_columns row y h.1)
no_columns row (Group agg x) h = ap (λ values. aggregate agg (present values)) (go (vars_of x))
  where
    go : (vs : List ℕ) → values_over (λ s. value_of x s) (OfRow no_row) vs ≡ values_over (λ s. value_of x s) (OfRow row) vs
    go [] = refl
    go (v ∷ vs) = refl
no_columns row (Counted x) h = refl

any_row : (row : Row) (groups : Bool) (x : CTree) → Reads (OfColumns []) x → IsEvaluable groups x (OfRow no_row) → IsEvaluable groups x (OfRow row)
any_row row groups (Literal v) h k = tt
any_row row groups (ColumnAt c) h k = tt
any_row row groups (PropertyOf x places) h k = tt
any_row row groups (One op x) h k = (subst (IsWithin widest) (no_columns row (One op x) h) k.0, any_row row groups x h k.1)
any_row row groups (Two op x y) h k = (subst (IsWithin widest) (no_columns row (Two op x y) h) k.0, any_row row groups x h.0 k.1, any_row row groups y h.1 k.2)
any_row row groups (Group agg x) h k = (
  k.0,
  λ v first n. subst (λ es. IsWithin widest (aggregate agg (present (values_at x (OfRow row) v es)))) (sym (take_nothing n))
      (subst (λ es. IsWithin widest (aggregate agg (present (values_at x (OfRow no_row) v es)))) (take_nothing n) (k.1 v first n)),
  λ v e. any_row row false x h (k.2 v e),
)
any_row row groups (Counted x) h k = tt

module _ (within : ValuesAreWithin) (by_variables : ByVariables) where
  same_value : (degrees : Degrees) (x : CTree) (scope : Scope) → HaveDegrees degrees x → value_of x (kept degrees scope) ≡ value_of x scope
  same_value degrees x (OfRow row) has = refl
  same_value degrees x (OfVars tables f) has = by_variables x tables (λ y. kept_if (degrees y) (f y)) f (λ y c. ap (λ o. kept_if o (f y)) (has y c).1)

  value_narrow : (frame : Frame) (degrees : Degrees) (x : CTree) (scope : Scope) → Fit frame (kept degrees scope) → HaveDegrees degrees x → IsNarrow frame x → IsWithin widest (value_of x scope)
  value_narrow frame degrees x scope fit has narrow =
      within_more (width_in frame x) (value_of x scope) (top_narrow frame x narrow)
      (subst (IsWithin (width_in frame x)) (same_value degrees x scope has) (within frame (kept degrees scope) x fit))

  -- THE FIRST ELEMENTS OF A VARIABLE

  abbrev cut : ℕ → ℕ → Scope → Scope
  cut v k (OfRow row) = OfRow row
  cut v k (OfVars tables f) = OfVars tables (λ y. cond (y == v) (take k (f y)) (f y))

  cut_elems : (v k : ℕ) (scope : Scope) → elems_of (cut v k scope) v ≡ take k (elems_of scope v)
  cut_elems v k (OfRow row) = sym (take_nothing k)
  cut_elems v k (OfVars tables f) = ap (λ b. cond b (take k (f v)) (f v)) (eq-eqb v v refl)

  cut_elem : (v k : ℕ) (scope : Scope) (e : ElemId) → with_elem (cut v k scope) v e ≡ with_elem scope v e
  cut_elem v k (OfRow row) e = refl
  cut_elem v k (OfVars tables f) e = λ i. OfVars tables (λ y. twice (e ∷ []) (take k (f y)) (f y) (y == v) i)

  cut_fits : (frame : Frame) (degrees : Degrees) (v k : ℕ) (scope : Scope) → Fit frame (kept degrees scope) → Fit frame (kept degrees (cut v k scope))
  cut_fits (OfColumns columns) degrees v k (OfRow row) fit = fit
  cut_fits (OfColumns columns) degrees v k (OfVars tables f) fit = absurd fit
  cut_fits (OfTables shapes) degrees v k (OfRow row) fit = absurd fit
  cut_fits (OfTables shapes) degrees v k (OfVars tables f) fit = (fit.0, λ y. short_front k (f y) (degrees y) (y == v) (fit.1 y))

  elem_fits : (frame : Frame) (degrees : Degrees) (v : ℕ) (e : ElemId) (scope : Scope) → Fit frame (kept degrees scope) → Fit frame (kept degrees (with_elem scope v e))
  elem_fits (OfColumns columns) degrees v e (OfRow row) fit = fit
  elem_fits (OfColumns columns) degrees v e (OfVars tables f) fit = absurd fit
  elem_fits (OfTables shapes) degrees v e (OfRow row) fit = absurd fit
  elem_fits (OfTables shapes) degrees v e (OfVars tables f) fit = (fit.0, λ y. short_elem e (f y) (degrees y) (y == v) (fit.1 y))

  cut_values : (x : CTree) (v k : ℕ) (scope : Scope) → slice_get (vars_of x) 0 ≡ Some v → values_over (λ s. value_of x s) (cut v k scope) (vars_of x) ≡ values_at x scope v (take k (elems_of scope v))
  cut_values x v k scope first = over_first x (cut v k scope) (vars_of x) v first ∙ (λ i. map (λ e. value_of x (cut_elem v k scope e i)) (cut_elems v k scope i))

  fronts_narrow : (frame : Frame) (degrees : Degrees) (agg : Agg) (x : CTree) (scope : Scope) → Fit frame (kept degrees scope) → HaveDegrees degrees x → IsNarrow frame (Group agg x)
      → (v : ℕ) → slice_get (vars_of x) 0 ≡ Some v → FrontsAreNarrow agg x scope v
  fronts_narrow frame degrees agg x scope fit has narrow v first k =
      subst (λ values. IsWithin widest (aggregate agg (present values))) (cut_values x v k scope first)
      (value_narrow frame degrees (Group agg x) (cut v k scope) (cut_fits frame degrees v k scope fit) has narrow)

  -- EXPRESSIONS

  evaluable : (frame : Frame) (degrees : Degrees) (groups : Bool) (x : CTree) (scope : Scope) → Fit frame (kept degrees scope) → HaveDegrees degrees x → IsNarrow frame x → Nests groups x
      → IsEvaluable groups x scope
  evaluable frame degrees groups (Literal v) scope fit has narrow nest = tt
  evaluable frame degrees groups (ColumnAt c) scope fit has narrow nest = tt
  evaluable frame degrees groups (PropertyOf x places) scope fit has narrow nest = tt
  evaluable frame degrees groups (One op x) scope fit has narrow nest =
      (value_narrow frame degrees (One op x) scope fit has narrow, evaluable frame degrees groups x scope fit has narrow.1 nest)
  evaluable frame degrees groups (Two op x y) scope fit has narrow nest = (
    value_narrow frame degrees (Two op x y) scope fit has narrow,
    evaluable frame degrees groups x scope fit (λ z c. has z (in_left (vars_of x) (vars_of y) z c)) narrow.1 nest.0,
    evaluable frame degrees groups y scope fit (λ z c. has z (in_right (vars_of x) (vars_of y) z c)) narrow.2 nest.1,
  )
  evaluable frame degrees groups (Group agg x) scope fit has narrow nest = (
    nest.0,
    fronts_narrow frame degrees agg x scope fit has narrow,
    λ v e. evaluable frame degrees false x (with_elem scope v e) (elem_fits frame degrees v e scope fit) has narrow.1 nest.1,
  )
  evaluable frame degrees groups (Counted x) scope fit has narrow nest = tt

  sound_evaluable : (frame : Frame) (degrees : Degrees) (x : CTree) (scope : Scope) → IsSoundTree frame degrees x → Fit frame (kept degrees scope) → IsEvaluable true x scope
  sound_evaluable frame degrees x scope sound fit = evaluable frame degrees true x scope fit (have_degrees degrees x sound.binds) sound.narrow (nests degrees x sound.binds)

  -- OVER A ROW

  pub row_evaluable : (row : Row) (e : CExpr) → IsCheckedForRow row e → IsEvaluable true (ctree_of e) (OfRow row)
  row_evaluable row e checked = elim checked.fits [
    | inl fits ↦ sound_evaluable (OfColumns checked.columns) no_variables (ctree_of e) (OfRow row) checked.sound fits
    | inr none ↦ (let sound = subst (λ columns. IsSoundTree (OfColumns columns) no_variables (ctree_of e)) none checked.sound in
        any_row row true (ctree_of e) sound.reads (sound_evaluable (OfColumns []) no_variables (ctree_of e) (OfRow no_row) sound tt))
  ]

  -- OVER VARIABLES

  pub bound_evaluable : (shapes : Shapes) (tables : Tables) (bound : Bound) (e : CExpr) → FitTables shapes tables → IsCheckedForBound shapes tables bound e
      → IsEvaluable true (ctree_of e) (OfVars tables (bound_to bound))
  bound_evaluable shapes tables bound e fit checked =
      sound_evaluable (OfTables shapes) checked.degrees (ctree_of e) (OfVars tables (bound_to bound)) checked.sound (fit, λ y. short_slot tables bound y (checked.degrees y) (checked.fits y))

  -- OVER VARIABLES OF AT MOST ONE ELEMENT

  short_kept : (d : Option Degree) (es : List ElemId) → length es ≤ 1 → length (kept_if d es) < 2 ^ count_width
  short_kept None es h = lit< tt
  short_kept (Some d) es h = let k : 1 < 2 ^ count_width = lit< tt in omega (arith, h, k)

  pub ones_evaluable : (shapes : Shapes) (tables : Tables) (held : List HeldMention) (e : CExpr) → FitTables shapes tables → IsCheckedForOnes shapes e
      → IsEvaluable true (ctree_of e) (OfVars tables (stood_for held))
  ones_evaluable shapes tables held e fit checked =
      sound_evaluable (OfTables shapes) checked.degrees (ctree_of e) (OfVars tables (stood_for held)) checked.sound
      (fit, λ y. short_kept (checked.degrees y) (stood_for held y) (at_most_one (map mention_view held) y))
