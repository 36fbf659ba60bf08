-- No value is wider than the width of its expression.
use Rattle.std.proofs.Common.{◌≡◌, ◌==◌, ◌+◌, ◌*◌, ◌^◌, ◌<◌, ◌≤◌, ◌≤ℤ◌, ℕ, zero, suc, ℤ, pos, negsuc, neg_ℤ, ◌+ℤ◌, ◌-ℤ◌, ◌*ℤ◌, unsigned_abs, max, Bool, true, false, cond, not, List, [], ◌∷◌, map, length, Option, Some, None, refl, ap, sym, ◌∙◌, subst, arith, lit≤, lit<}
use Rattle.std.specs.Prelude.{slice_get, slice_index_or}
use Rattle.std.specs.List.{AllZip, cons_option}
use Rattle.std.specs.Int.Digits.{digits_of}
use Rattle.std.specs.Ordering.{is_lt}
use Rattle.std.proofs.Math.Nat.{pow-le-pow_right}
use Rattle.std.proofs.lemmas.Nat.{pow-add, mul-le}
use Rattle.std.proofs.lemmas.Int.{ints, unsigned_abs-mul}
use Rattle.std.proofs.lemmas.Int.Digits.{number_lt, all_below_base_digits_of, number_digits_of}
use Rattle.pg_keyed.specs.Lists.{Each, each_among, each_filter}
use Rattle.pg_keyed.specs.Reads.{get_key, get_among}
use Rattle.pg_value.specs.declared.value.Value.{Value}
use Rattle.pg_value.specs.declared.value.Value.TheVariants.{Null, Int, Text, Bool as Truth'}
use Rattle.pg_value.specs.declared.value.Truth.{Truth}
use Rattle.pg_value.specs.declared.value.Truth.TheVariants.{True, False, Unknown}
use Rattle.pg_value.specs.declared.value.Cmp.TheVariants as cmps
use Rattle.pg_value.specs.declared.row.Row.{Row}
use Rattle.pg_value.specs.declared.shape.ElemId.{ElemId}
use Rattle.pg_value.specs.declared.shape.ColumnShape.{ColumnShape}
use Rattle.pg_value.specs.declared.shape.TableShape.{TableShape}
use Rattle.pg_value.specs.declared.shape.Shapes.{Shapes}
use Rattle.pg_value.specs.Order.{Place, place_cmp, value_cmp, number}
use Rattle.pg_value.specs.Orders.{places}
use Rattle.pg_value.specs.Compare.{is_null, compare}
use Rattle.pg_value.specs.Tables.{Stored, Tables, FitsColumn, FitsStored, FitTables, place_of, stored_at, FitsRow}
use Rattle.pg_value.specs.Graph.{property, value_in, elem_place}
use Rattle.pg_ast.specs.declared.expr.UnOp.{UnOp}
use Rattle.pg_ast.specs.declared.expr.UnOp.TheVariants.{Minus, Not, IsNull, IsNotNull}
use Rattle.pg_ast.specs.declared.expr.BinOp.{BinOp}
use Rattle.pg_ast.specs.declared.expr.BinOp.TheVariants as bin
use Rattle.pg_ast.specs.declared.expr.Agg.{Agg}
use Rattle.pg_ast.specs.declared.expr.Agg.TheVariants.{Count, Sum, Min, Max}
use Rattle.pg_ast.specs.Grammar.Exprs.{binary_digits}
use Rattle.pg_meaning.specs.CExprs.{CTree, Literal, ColumnAt, PropertyOf, One, Two, Group, Counted, ctree_of}
use Rattle.pg_meaning.specs.Typing.{Typed, bits_of, unary_width, binary_width, agg_width, count_width, widest}
use Rattle.pg_meaning.specs.Meaning.{Scope, OfRow, OfVars, as_value, as_truth, truth_not, truth_and, truth_or, unary, binary, on_numbers, present, total, lesser, greater, all_by, aggregate, elems_of, with_elem, values_over, vars_of, value_of, property_first}
use Rattle.pg_meaning.specs.declared.checked.CheckedSet.{CheckedSet}
use Rattle.pg_meaning.specs.Sound.{Degrees, IsNarrow, IsSoundTree}
use Rattle.pg_meaning.specs.Sound.Changes.{IsSoundValue, ValuesAreNarrow, no_variables}
use Rattle.pg_meaning.specs.Sound.Kinds.{Frame, OfColumns, OfTables, column_at, property_in, property_columns, literal_width, greatest_width, width_found, width_in, Fit, IsWithin, ValuesAreWithin}

-- NUMBERS

abs_neg : (n : ℤ) → unsigned_abs (neg_ℤ n) ≡ unsigned_abs n
abs_neg (pos zero) = refl
abs_neg (pos (suc n)) = refl
abs_neg (negsuc n) = refl

abs_add : (m n : ℤ) → unsigned_abs (m +ℤ n) ≤ unsigned_abs m + unsigned_abs n
abs_add m n = omega (arith, ints)

abs_sub : (m n : ℤ) → unsigned_abs (m -ℤ n) ≤ unsigned_abs m + unsigned_abs n
abs_sub m n = omega (arith, ints)

pow_mono : (v w : ℕ) → v ≤ w → 2 ^ v ≤ 2 ^ w
pow_mono v w h = pow-le-pow_right {n = 2} (lit< tt) {i = v} {j = w} h

pow_sum : (v w : ℕ) → 2 ^ v + 2 ^ w ≤ 2 ^ (max v w + 1)
pow_sum v w =
    let p = pow_mono v (max v w) (omega arith) in
    let q = pow_mono w (max v w) (omega arith) in
    let e : 2 ^ (max v w + 1) ≡ 2 ^ max v w * 2 = pow-add 2 (max v w) 1 in
    omega (arith, e, p, q)

within_digits : (n : ℕ) → n ≤ 2 ^ binary_digits n
within_digits n =
    let h = number_lt 2 (digits_of 2 n) (all_below_base_digits_of 2 n (lit≤ tt)) in
    let e = number_digits_of 2 n (lit≤ tt) in
    omega (arith, h, e)

-- VALUES

within_more : (v w : ℕ) (x : Value) → v ≤ w → IsWithin v x → IsWithin w x
within_more v w Null h k = tt
within_more v w (Text t) h k = tt
within_more v w (Truth' b) h k = tt
within_more v w (Int n) h k = let p = pow_mono v w h in omega (arith, p, k)

literal_within : (v : Value) → IsWithin (literal_width v) v
literal_within Null = tt
literal_within (Int n) = within_digits (unsigned_abs n)
literal_within (Text t) = tt
literal_within (Truth' b) = tt

truth_within : (w : ℕ) (t : Truth) → IsWithin w (as_value t)
truth_within w True = tt
truth_within w False = tt
truth_within w Unknown = tt

unary_within : (op : UnOp) (w : ℕ) (u : Value) → IsWithin w u → IsWithin (unary_width op w) (unary op u)
unary_within Minus w Null h = tt
unary_within Minus w (Int n) h = subst (λ k. k ≤ 2 ^ w) (sym (abs_neg n)) h
unary_within Minus w (Text t) h = tt
unary_within Minus w (Truth' b) h = tt
unary_within Not w u h = truth_within 0 (truth_not (as_truth u))
unary_within IsNull w u h = tt
unary_within IsNotNull w u h = tt

-- two numbers, or else NULL
numbers_within : (f : ℤ → ℤ → ℤ) (w : ℕ) (u v : Value) → ((m n : ℤ) → u ≡ Int m → v ≡ Int n → unsigned_abs (f m n) ≤ 2 ^ w) → IsWithin w (on_numbers f u v)
numbers_within f w (Int m) (Int n) h = h m n refl refl
numbers_within f w (Int m) Null h = tt
numbers_within f w (Int m) (Text t) h = tt
numbers_within f w (Int m) (Truth' b) h = tt
numbers_within f w Null v h = tt
numbers_within f w (Text t) v h = tt
numbers_within f w (Truth' b) v h = tt

size_of : (w : ℕ) (u : Value) (n : ℤ) → IsWithin w u → u ≡ Int n → unsigned_abs n ≤ 2 ^ w
size_of w u n h e = subst (IsWithin w) e h

sum_within : (f : ℤ → ℤ → ℤ) → ((m n : ℤ) → unsigned_abs (f m n) ≤ unsigned_abs m + unsigned_abs n) → (a b : ℕ) (u v : Value) → IsWithin a u → IsWithin b v → IsWithin (max a b + 1) (on_numbers f u v)
sum_within f add a b u v h k = numbers_within f (max a b + 1) u v (λ m n p q.
    let x = size_of a u m h p in
    let y = size_of b v n k q in
    let s = pow_sum a b in
    let t = add m n in
    omega (arith, x, y, s, t))

product_within : (a b : ℕ) (u v : Value) → IsWithin a u → IsWithin b v → IsWithin (a + b) (on_numbers (λ m n. m *ℤ n) u v)
product_within a b u v h k = numbers_within (λ m n. m *ℤ n) (a + b) u v (λ m n p q.
    let s = mul-le (unsigned_abs m) (unsigned_abs n) (2 ^ a) (2 ^ b) (size_of a u m h p) (size_of b v n k q) in
    subst (λ z. z ≤ 2 ^ (a + b)) (sym (unsigned_abs-mul m n)) (subst (λ z. unsigned_abs m * unsigned_abs n ≤ z) (sym (pow-add 2 a b)) s))

binary_within : (op : BinOp) (a b : ℕ) (u v : Value) → IsWithin a u → IsWithin b v → IsWithin (binary_width op a b) (binary op u v)
binary_within bin.Or a b u v h k = truth_within 0 (truth_or (as_truth u) (as_truth v))
binary_within bin.And a b u v h k = truth_within 0 (truth_and (as_truth u) (as_truth v))
binary_within bin.Eq a b u v h k = truth_within 0 (compare cmps.Eq u v)
binary_within bin.Ne a b u v h k = truth_within 0 (compare cmps.Ne u v)
binary_within bin.Lt a b u v h k = truth_within 0 (compare cmps.Lt u v)
binary_within bin.Le a b u v h k = truth_within 0 (compare cmps.Le u v)
binary_within bin.Gt a b u v h k = truth_within 0 (compare cmps.Gt u v)
binary_within bin.Ge a b u v h k = truth_within 0 (compare cmps.Ge u v)
binary_within bin.Plus a b u v h k = sum_within (λ m n. m +ℤ n) abs_add a b u v h k
binary_within bin.Minus a b u v h k = sum_within (λ m n. m -ℤ n) abs_sub a b u v h k
binary_within bin.Times a b u v h k = product_within a b u v h k

-- AGGREGATES

number_within : (w : ℕ) (v : Value) → IsWithin w v → unsigned_abs (number v) ≤ 2 ^ w
number_within w Null h = omega arith
number_within w (Int n) h = h
number_within w (Text t) h = omega arith
number_within w (Truth' b) h = omega arith

total_within : (w : ℕ) (vs : List Value) → Each (IsWithin w) vs → unsigned_abs (total vs) ≤ length vs * 2 ^ w
total_within w [] h = omega arith
total_within w (v ∷ vs) h =
    let a = number_within w v h.0 in
    let r = total_within w vs h.1 in
    let s = abs_add (number v) (total vs) in
    let e : length (v ∷ vs) * 2 ^ w ≡ 2 ^ w + length vs * 2 ^ w = omega arith in
    omega (arith, a, r, s, e)

-- one of two, so one of all
choice_within : (w : ℕ) (b : Bool) (u v : Value) → IsWithin w u → IsWithin w v → IsWithin w (cond b v u)
choice_within w true u v h k = k
choice_within w false u v h k = h

all_within : (w : ℕ) (f : Value → Value → Value) → ((u v : Value) → IsWithin w u → IsWithin w v → IsWithin w (f u v)) → (v : Value) (vs : List Value) → IsWithin w v → Each (IsWithin w) vs → IsWithin w (all_by f v vs)
all_within w f one v [] h k = h
all_within w f one v (u ∷ us) h k = one v (all_by f u us) h (all_within w f one u us k.0 k.1)

aggregate_within : (agg : Agg) (w : ℕ) (vs : List Value) → Each (IsWithin w) vs → length vs < 2 ^ count_width → IsWithin (agg_width agg w) (aggregate agg vs)
aggregate_within Count w vs h short = omega (arith, short)
aggregate_within Sum w [] h short = tt
aggregate_within Sum w (v ∷ vs) h short =
    let t = total_within w (v ∷ vs) h in
    let s = mul-le (length (v ∷ vs)) (2 ^ w) (2 ^ count_width) (2 ^ w) (omega (arith, short)) (omega arith) in
    let e : 2 ^ (w + count_width) ≡ 2 ^ w * 2 ^ count_width = pow-add 2 w count_width in
    let c : 2 ^ w * 2 ^ count_width ≡ 2 ^ count_width * 2 ^ w = omega arith in
    omega (arith, t, s, e, c)
aggregate_within Min w [] h short = tt
aggregate_within Min w (v ∷ vs) h short = all_within w lesser (λ a b. choice_within w (is_lt (value_cmp b a)) a b) v vs h.0 h.1
aggregate_within Max w [] h short = tt
aggregate_within Max w (v ∷ vs) h short = all_within w greater (λ a b. choice_within w (is_lt (value_cmp a b)) a b) v vs h.0 h.1

no_longer : (vs : List Value) → length (present vs) ≤ length vs
no_longer [] = omega arith
no_longer (v ∷ vs) = keep (not (is_null v)) (no_longer vs)
  where
    keep : (b : Bool) → length (present vs) ≤ length vs → length (cond b (v ∷ present vs) (present vs)) ≤ length (v ∷ vs)
    keep true h = omega (arith, h)
    keep false h = omega (arith, h)

present_within : (agg : Agg) (w : ℕ) (vs : List Value) → Each (IsWithin w) vs → length vs < 2 ^ count_width → IsWithin (agg_width agg w) (aggregate agg (present vs))
present_within agg w vs h short =
    let n = no_longer vs in
    aggregate_within agg w (present vs) (each_filter (IsWithin w) (λ v. not (is_null v)) vs h) (omega (arith, n, short))

-- COLUMNS AND PROPERTIES

column_fits : (c : ColumnShape) (v : Value) → FitsColumn c v → IsWithin (bits_of c.kind) v
column_fits c Null h = tt
column_fits c (Text t) h = tt
column_fits c (Truth' b) h = tt
column_fits c (Int n) h = subst (λ k. IsWithin (bits_of k) (Int n)) (sym h.0) (size n h.1 h.2)
  where
    size : (n : ℤ) → negsuc 2147483647 ≤ℤ n → n ≤ℤ pos 2147483647 → unsigned_abs n ≤ 2 ^ 31
    size n p q = omega (arith, ints, p, q)

column_within : (cs : List ColumnShape) (vs : List Value) (c : ℕ) → AllZip FitsColumn cs vs → IsWithin (width_found (column_at cs c)) (slice_index_or vs c Null)
column_within [] [] c h = tt
column_within [] (v ∷ vs) c h = absurd h
column_within (k ∷ cs) [] c h = absurd h
column_within (k ∷ cs) (v ∷ vs) zero h = column_fits k v h.0
column_within (k ∷ cs) (v ∷ vs) (suc c) h = column_within cs vs c h.1

first_le : (t : Typed) (o : Option Typed) (ts : List Typed) → o ≡ Some t → t.width ≤ greatest_width (cons_option o ts)
first_le t o ts e = subst (λ o. t.width ≤ greatest_width (cons_option o ts)) (sym e) (omega arith)

rest_le : (o : Option Typed) (ts : List Typed) → greatest_width ts ≤ greatest_width (cons_option o ts)
rest_le None ts = omega arith
rest_le (Some t) ts = omega arith

not_there : {X : Type 0} (x : X) → None ≡ Some x → ⊥
not_there x e = cc

some_is : {X : Type 0} (x y : X) → Some x ≡ Some y → x ≡ y
some_is x y e = cc

found_le : (o : Option Typed) (ts : List Typed) → width_found o ≤ greatest_width (cons_option o ts)
found_le None ts = omega arith
found_le (Some t) ts = omega arith

-- a column that is a property of a table is no wider than the property
among_le : (ts : List TableShape) (ps : List (Option ℕ)) (t : ℕ) (shape : TableShape) (c : ℕ) → slice_get ts t ≡ Some shape → slice_index_or ps t None ≡ Some c
    → width_found (column_at shape.columns c) ≤ greatest_width (property_columns ts ps)
among_le [] ps t shape c h k = absurd (not_there shape h)
among_le (s ∷ ts) [] t shape c h k = absurd (not_there c k)
among_le (s ∷ ts) (p ∷ ps) zero shape c h k =
    subst (λ o. width_found o ≤ greatest_width (cons_option (property_in s p) (property_columns ts ps)))
    ((λ i. property_in (some_is s shape h i) (k i))) (found_le (property_in s p) (property_columns ts ps))
among_le (s ∷ ts) (p ∷ ps) (suc t) shape c h k =
    let r = among_le ts ps t shape c h k in
    let q = rest_le (property_in s p) (property_columns ts ps) in
    omega (arith, r, q)

property_within : (shapes : Shapes) (tables : Tables) (e : ElemId) (ps : List (Option ℕ)) → FitTables shapes tables → IsWithin (greatest_width (property_columns shapes.tables ps)) (property tables e ps)
property_within shapes tables e ps fit = go (stored_at (elem_place e) tables) refl (slice_index_or ps e.table.0 None) refl
  where
    go : (o : Option Stored) → stored_at (elem_place e) tables ≡ o → (p : Option ℕ) → slice_index_or ps e.table.0 None ≡ p → IsWithin (greatest_width (property_columns shapes.tables ps)) (value_in o p)
    go None h p k = tt
    go (Some s) h None k = tt
    go (Some s) h (Some c) k =
        let at : elem_place e ≡ place_of s = get_key place_of place_cmp places (elem_place e) tables s h in
        let fits : FitsStored shapes s = each_among (FitsStored shapes) s tables fit.each (get_among place_of place_cmp places (elem_place e) tables s h) in
        let own : slice_get shapes.tables e.table.0 ≡ Some fits.0 = ap (λ (q : Place). slice_get shapes.tables q.0) at ∙ fits.1 in
        within_more (width_found (column_at fits.0.columns c)) (greatest_width (property_columns shapes.tables ps)) (slice_index_or s.row.values c Null)
        (among_le shapes.tables ps e.table.0 fits.0 c own k) (column_within fits.0.columns s.row.values c fits.3.0)

first_within : (shapes : Shapes) (tables : Tables) (es : List ElemId) (ps : List (Option ℕ)) → FitTables shapes tables → IsWithin (greatest_width (property_columns shapes.tables ps)) (property_first tables es ps)
first_within shapes tables [] ps fit = tt
first_within shapes tables (e ∷ es) ps fit = property_within shapes tables e ps fit

-- EXPRESSIONS

read_column : (frame : Frame) (scope : Scope) (c : ℕ) → Fit frame scope → IsWithin (width_in frame (ColumnAt c)) (value_of (ColumnAt c) scope)
read_column (OfColumns columns) (OfRow row) c fit = column_within columns row.values c fit
read_column (OfColumns columns) (OfVars tables f) c fit = absurd fit
read_column (OfTables shapes) (OfRow row) c fit = absurd fit
read_column (OfTables shapes) (OfVars tables f) c fit = tt

read_property : (frame : Frame) (scope : Scope) (x : ℕ) (ps : List (Option ℕ)) → Fit frame scope → IsWithin (width_in frame (PropertyOf x ps)) (value_of (PropertyOf x ps) scope)
read_property (OfColumns columns) (OfRow row) x ps fit = tt
read_property (OfColumns columns) (OfVars tables f) x ps fit = absurd fit
read_property (OfTables shapes) (OfRow row) x ps fit = absurd fit
read_property (OfTables shapes) (OfVars tables f) x ps fit = first_within shapes tables (f x) ps fit.0

few_elems : (frame : Frame) (scope : Scope) (x : ℕ) → Fit frame scope → length (elems_of scope x) < 2 ^ count_width
few_elems (OfColumns columns) (OfRow row) x fit = lit< tt
few_elems (OfColumns columns) (OfVars tables f) x fit = absurd fit
few_elems (OfTables shapes) (OfRow row) x fit = absurd fit
few_elems (OfTables shapes) (OfVars tables f) x fit = fit.1 x

still_fits : (frame : Frame) (scope : Scope) (x : ℕ) (e : ElemId) → Fit frame scope → Fit frame (with_elem scope x e)
still_fits (OfColumns columns) (OfRow row) x e fit = fit
still_fits (OfColumns columns) (OfVars tables f) x e fit = absurd fit
still_fits (OfTables shapes) (OfRow row) x e fit = absurd fit
still_fits (OfTables shapes) (OfVars tables f) x e fit = (fit.0, λ y. set (f y) (y == x) (fit.1 y))
  where
    set : (es : List ElemId) (b : Bool) → length es < 2 ^ count_width → length (cond b (e ∷ []) es) < 2 ^ count_width
    set es true h = lit< tt
    set es false h = h

each_value : (w : ℕ) (value : ElemId → Value) → ((e : ElemId) → IsWithin w (value e)) → (es : List ElemId) → Each (IsWithin w) (map value es)
each_value w value h [] = tt
each_value w value h (e ∷ es) = (h e, each_value w value h es)

length_values : (value : ElemId → Value) (es : List ElemId) → length (map value es) ≡ length es
length_values value [] = refl
length_values value (e ∷ es) = ap suc (length_values value es)

over_within : (frame : Frame) (agg : Agg) (w : ℕ) (value : Scope → Value) (scope : Scope) (xs : List ℕ) → Fit frame scope → ((s : Scope) → Fit frame s → IsWithin w (value s))
    → IsWithin (agg_width agg w) (aggregate agg (present (values_over value scope xs)))
over_within frame agg w value scope [] fit each = present_within agg w [] tt (lit< tt)
over_within frame agg w value scope (x ∷ xs) fit each =
    let values = map (λ e. value (with_elem scope x e)) (elems_of scope x) in
    present_within agg w values (each_value w (λ e. value (with_elem scope x e)) (λ e. each (with_elem scope x e) (still_fits frame scope x e fit)) (elems_of scope x))
    (subst (λ n. n < 2 ^ count_width) (sym (length_values (λ e. value (with_elem scope x e)) (elems_of scope x))) (few_elems frame scope x fit))

within : (frame : Frame) (x : CTree) (scope : Scope) → Fit frame scope → IsWithin (width_in frame x) (value_of x scope)
within frame (Literal v) scope fit = literal_within v
within frame (ColumnAt c) scope fit = read_column frame scope c fit
within frame (PropertyOf x ps) scope fit = read_property frame scope x ps fit
within frame (One op x) scope fit = unary_within op (width_in frame x) (value_of x scope) (within frame x scope fit)
within frame (Two op x y) scope fit = binary_within op (width_in frame x) (width_in frame y) (value_of x scope) (value_of y scope) (within frame x scope fit) (within frame y scope fit)
within frame (Group agg x) scope fit = over_within frame agg (width_in frame x) (λ s. value_of x s) scope (vars_of x) fit (λ s h. within frame x s h)
within frame (Counted x) scope fit = let n = few_elems frame scope x fit in omega (arith, n)

pub values_are_within : ValuesAreWithin
values_are_within frame scope x fit = within frame x scope fit

-- SOUND EXPRESSIONS

top_narrow : (frame : Frame) (x : CTree) → IsNarrow frame x → width_in frame x ≤ widest
top_narrow frame (Literal v) h = h
top_narrow frame (ColumnAt c) h = h
top_narrow frame (PropertyOf x ps) h = h
top_narrow frame (One op x) h = h.0
top_narrow frame (Two op x y) h = h.0
top_narrow frame (Group agg x) h = h.0
top_narrow frame (Counted x) h = h

sound_within : (frame : Frame) (degrees : Degrees) (scope : Scope) (x : CTree) → IsSoundTree frame degrees x → Fit frame scope → IsWithin widest (value_of x scope)
sound_within frame degrees scope x sound fit = within_more (width_in frame x) widest (value_of x scope) (top_narrow frame x sound.narrow) (within frame x scope fit)

sets_within : (table : TableShape) (row : Row) (sets : List CheckedSet) → Each (λ (s : CheckedSet). IsSoundValue table (OfColumns table.columns) s.column s.value) sets → FitsRow table row
    → Each (λ (s : CheckedSet). IsWithin widest (value_of (ctree_of s.value) (OfRow row))) sets
sets_within table row [] h fit = tt
sets_within table row (s ∷ sets) h fit = (sound_within (OfColumns table.columns) no_variables (OfRow row) (ctree_of s.value) h.0.sound.sound fit, sets_within table row sets h.1 fit)

pub values_are_narrow : ValuesAreNarrow
values_are_narrow = record { expression = sound_within; update = λ table sets condition row sound fit. sets_within table row sets sound.values fit }
