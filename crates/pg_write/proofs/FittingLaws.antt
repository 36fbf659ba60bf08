-- What a sound change writes fits the shapes of its tables: its values have their columns' kinds, and no row has a fault.
use Rattle.std.proofs.Common.{ℕ, zero, suc, ◌≡◌, ◌+◌, ◌<◌, Bool, true, false, cond, refl, ap, sym, subst, ◌∙◌, List, [], ◌∷◌, ◌++◌, map, length, get_or, arith, inl, inr, eq-eqb}
use Rattle.std.specs.Prelude.{ℤ, pos, negsuc, ◌≤ℤ◌, not, ◌==◌, ◌||◌, slice_get, slice_index_or, nat_lt, find, Contains}
use Rattle.std.specs.declared.option.Option.{Option}
use Rattle.std.specs.declared.option.Option.TheVariants.{Some, None}
use Rattle.std.specs.Option.{option_map}
use Rattle.std.specs.List.{list_any, AllZip}
use Rattle.std.proofs.lemmas.Bool.{not-false, eqb-true, ltb-true, ltb-false}
use Rattle.std.proofs.lemmas.Int.{ints}
use Rattle.std.proofs.lemmas.List.FromFn.{length-map-range_with_len, get_or-map-range_with_len}
use Rattle.std.proofs.lemmas.Option.{none-some, same_Some, slice_get_within, get_or_from_slice_get}
use Rattle.pg_keyed.specs.Lists.{Each, Among, each_among, each_of, each_filter, each_kept}
use Rattle.pg_keyed.specs.Puts.{merge_each}
use Rattle.pg_value.specs.Order.{place_cmp}
use Rattle.pg_value.specs.Orders.{places}
use Rattle.pg_value.specs.Kinds.{same_kind}
use Rattle.pg_value.specs.Writes.{named, merge}
use Rattle.pg_value.specs.declared.value.Kind.{Kind}
use Rattle.pg_value.specs.declared.value.Kind.TheVariants as kinds
use Rattle.pg_value.specs.declared.value.Truth.{Truth}
use Rattle.pg_value.specs.declared.value.Truth.TheVariants as truths
use Rattle.pg_value.specs.declared.value.Value.{Value}
use Rattle.pg_value.specs.declared.value.Value.TheVariants.{Null, Int, Text, Bool as Truth'}
use Rattle.pg_value.specs.declared.row.Row.{Row}
use Rattle.pg_value.specs.declared.shape.TableNo.{TableNo}
use Rattle.pg_value.specs.declared.shape.ColumnShape.{ColumnShape}
use Rattle.pg_value.specs.declared.shape.TableShape.{TableShape}
use Rattle.pg_value.specs.declared.shape.Shapes.{Shapes}
use Rattle.pg_value.specs.declared.write.Write.{Write}
use Rattle.pg_value.specs.Tables.{Stored, Tables, pick, held_in, FitsColumn, FitsRow, FitsKeyColumn, FitsKey, IsOfKind, FitsBoth, FitsWrite, FitWrites, FitsStored, FitTables}
use Rattle.pg_ast.specs.declared.expr.UnOp.{UnOp}
use Rattle.pg_ast.specs.declared.expr.UnOp.TheVariants as un
use Rattle.pg_ast.specs.declared.expr.BinOp.{BinOp}
use Rattle.pg_ast.specs.declared.expr.BinOp.TheVariants as bin
use Rattle.pg_ast.specs.declared.expr.Agg.{Agg}
use Rattle.pg_ast.specs.declared.expr.Agg.TheVariants as agg
use Rattle.pg_meaning.specs.declared.checked.CExpr.{CExpr}
use Rattle.pg_meaning.specs.declared.checked.CheckedSet.{CheckedSet}
use Rattle.pg_meaning.specs.declared.checked.CheckedChange.{CheckedChange}
use Rattle.pg_meaning.specs.declared.checked.CheckedChange.TheVariants.{Insert, Update, Delete}
use Rattle.pg_meaning.specs.CExprs.{CTree, Literal, ColumnAt, PropertyOf, One, Two, Group, Counted, ctree_of}
use Rattle.pg_meaning.specs.Typing.{typed, may_be, value_kind, unary_kind, binary_kind, agg_kind}
use Rattle.pg_meaning.specs.Members.{in_here, in_there}
use Rattle.pg_meaning.specs.Meaning.{OfRow, value_of, vars_of, unary, binary, aggregate, present, values_over, on_numbers, minus, as_value, truth_not, as_truth}
use Rattle.pg_meaning.specs.Sound.Kinds.{OfColumns, kind_in, column_kind}
use Rattle.pg_meaning.specs.Sound.Graphs.{IsSoundTable, IsKeyColumn}
use Rattle.pg_meaning.specs.Sound.Changes.{IsSoundValue, IsSoundUpdate, IsSoundFor, table_of}
use Rattle.pg_rules.specs.declared.fault.RowFault.{RowFault}
use Rattle.pg_rules.specs.declared.fault.RowFault.TheVariants as faults
use Rattle.pg_rules.specs.Changes.InsertEffect.{plain_value, given, row_of, write_of, in_range, is_key, null_fault, size_fault, value_fault, column_fault, or_else}
use Rattle.pg_rules.specs.Changes.ChangeEffect.{value_set, updated, update_of, delete_of, taken, takes, proposed, columns_fault, with_writes}
use Rattle.pg_write.specs.JudgedRows.{expr_for, no_values}
use Rattle.pg_write.specs.ChangeEffects.{EffectsFit}
use Rattle.pg_write.proofs.ProposedLaws.{found_one, given_some, given_none}
use Rattle.pg_write.proofs.CheckedLaws.{table_sound}

-- LISTS

-- what holds of an item wherever the list is cut holds of each
each_cut : {X : Type 0} (P : X → Type 0) (xs : List X) → ((front back : List X) (x : X) → xs ≡ front ++ x ∷ back → P x) → Each P xs
each_cut P [] h = tt
each_cut P (x ∷ xs) h = (h [] xs x refl, each_cut P xs (λ front back y e. h (x ∷ front) back y (ap (λ l. x ∷ l) e)))

-- what holds of the items at each place holds of both lists
zipped : {X Y : Type 0} (R : X → Y → Type 0) (xs : List X) (ys : List Y) → length xs ≡ length ys → ((i : ℕ) (x : X) (y : Y) → slice_get xs i ≡ Some x → slice_get ys i ≡ Some y → R x y) → AllZip R xs ys
zipped R [] [] e h = tt
zipped R [] (y ∷ ys) e h = absurd (omega arith)
zipped R (x ∷ xs) [] e h = absurd (omega arith)
zipped R (x ∷ xs) (y ∷ ys) e h = (h 0 x y refl refl, zipped R xs ys (omega arith) (λ i. h (suc i)))

zip_length : {X Y : Type 0} (R : X → Y → Type 0) (xs : List X) (ys : List Y) → AllZip R xs ys → length xs ≡ length ys
zip_length R [] [] h = refl
zip_length R [] (y ∷ ys) h = absurd h
zip_length R (x ∷ xs) [] h = absurd h
zip_length R (x ∷ xs) (y ∷ ys) h = ap suc (zip_length R xs ys h.1)

there : {X : Type 0} (xs : List X) (i : ℕ) → i < length xs → (x : X) × (slice_get xs i ≡ Some x)
there [] i h = absurd (omega arith)
there (x ∷ xs) zero h = (x, refl)
there (x ∷ xs) (suc i) h = there xs i (omega arith)

-- NO FAULT

false_true : {P : Type 0} → false ≡ true → P
false_true h = absurd cc

or_none : (a b : Option RowFault) → or_else a b ≡ None → (a ≡ None) × (b ≡ None)
or_none None b h = (refl, h)
or_none (Some f) b h = absurd cc

cond_none : (b : Bool) (f : RowFault) (o : Option RowFault) → cond b (Some f) o ≡ None → (b ≡ false) × (o ≡ None)
cond_none true f o h = absurd cc
cond_none false f o h = (refl, h)

-- THE KINDS OF VALUES

same_is : (j k : Kind) → same_kind j k ≡ true → j ≡ k
same_is kinds.Int kinds.Int h = refl
same_is kinds.Int kinds.Text h = false_true h
same_is kinds.Int kinds.Bool h = false_true h
same_is kinds.Text kinds.Int h = false_true h
same_is kinds.Text kinds.Text h = refl
same_is kinds.Text kinds.Bool h = false_true h
same_is kinds.Bool kinds.Int h = false_true h
same_is kinds.Bool kinds.Text h = false_true h
same_is kinds.Bool kinds.Bool h = refl

itself : (k : Kind) → same_kind k k ≡ true
itself kinds.Int = refl
itself kinds.Text = refl
itself kinds.Bool = refl

truth_kind : (k : Kind) (t : Truth) → may_be k (Some kinds.Bool) ≡ true → may_be k (value_kind (as_value t)) ≡ true
truth_kind k truths.True h = h
truth_kind k truths.False h = h
truth_kind k truths.Unknown h = refl

minus_kind : (k : Kind) (v : Value) → may_be k (Some kinds.Int) ≡ true → may_be k (value_kind (minus v)) ≡ true
minus_kind k Null h = refl
minus_kind k (Int n) h = h
minus_kind k (Text t) h = refl
minus_kind k (Truth' b) h = refl

numbers_kind : (f : ℤ → ℤ → ℤ) (k : Kind) (u v : Value) → may_be k (Some kinds.Int) ≡ true → may_be k (value_kind (on_numbers f u v)) ≡ true
numbers_kind f k (Int m) (Int n) h = h
numbers_kind f k (Int m) Null h = refl
numbers_kind f k (Int m) (Text t) h = refl
numbers_kind f k (Int m) (Truth' b) h = refl
numbers_kind f k Null v h = refl
numbers_kind f k (Text t) v h = refl
numbers_kind f k (Truth' b) v h = refl

unary_right : (op : UnOp) (k : Kind) (v : Value) → may_be k (Some (unary_kind op)) ≡ true → may_be k (value_kind (unary op v)) ≡ true
unary_right un.Minus k v h = minus_kind k v h
unary_right un.Not k v h = truth_kind k (truth_not (as_truth v)) h
unary_right un.IsNull k v h = h
unary_right un.IsNotNull k v h = h

binary_right : (op : BinOp) (k : Kind) (u v : Value) → may_be k (Some (binary_kind op)) ≡ true → may_be k (value_kind (binary op u v)) ≡ true
binary_right bin.Or k u v h = truth_kind k _ h
binary_right bin.And k u v h = truth_kind k _ h
binary_right bin.Eq k u v h = truth_kind k _ h
binary_right bin.Ne k u v h = truth_kind k _ h
binary_right bin.Lt k u v h = truth_kind k _ h
binary_right bin.Le k u v h = truth_kind k _ h
binary_right bin.Gt k u v h = truth_kind k _ h
binary_right bin.Ge k u v h = truth_kind k _ h
binary_right bin.Plus k u v h = numbers_kind _ k u v h
binary_right bin.Minus k u v h = numbers_kind _ k u v h
binary_right bin.Times k u v h = numbers_kind _ k u v h

-- over a row an aggregate is over nothing
nothing_right : (a : Agg) (k : Kind) (o : Option Kind) → may_be k (agg_kind a o) ≡ true → may_be k (value_kind (aggregate a [])) ≡ true
nothing_right agg.Count k o h = h
nothing_right agg.Sum k o h = refl
nothing_right agg.Min k o h = refl
nothing_right agg.Max k o h = refl

group_right : (a : Agg) (x : CTree) (row : Row) (vs : List ℕ) (k : Kind) (o : Option Kind) → may_be k (agg_kind a o) ≡ true → may_be k (value_kind (aggregate a (present (values_over (λ s. value_of x s) (OfRow row) vs)))) ≡ true
group_right a x row [] k o h = nothing_right a k o h
group_right a x row (v ∷ vs) k o h = nothing_right a k o h

-- the values of a row have their columns' kinds
abbrev HasKinds : List ColumnShape → Row → Type 0
HasKinds columns row = (c : ℕ) (k : Kind) → may_be k (column_kind (OfColumns columns) c) ≡ true → may_be k (value_kind (slice_index_or row.values c Null)) ≡ true

-- and so has the value of an expression
kind_right : (columns : List ColumnShape) (row : Row) (x : CTree) (k : Kind) → HasKinds columns row → may_be k (kind_in (OfColumns columns) x) ≡ true → may_be k (value_kind (value_of x (OfRow row))) ≡ true
kind_right columns row (Literal v) k own h = h
kind_right columns row (ColumnAt c) k own h = own c k h
kind_right columns row (PropertyOf x columns') k own h = refl
kind_right columns row (One op x) k own h = unary_right op k (value_of x (OfRow row)) h
kind_right columns row (Two op x y) k own h = binary_right op k (value_of x (OfRow row)) (value_of y (OfRow row)) h
kind_right columns row (Group a x) k own h = group_right a x row (vars_of x) k (kind_in (OfColumns columns) x) h
kind_right columns row (Counted x) k own h = h

nothing_has : HasKinds [] no_values
nothing_has c k h = refl

column_right : (c : ColumnShape) (v : Value) → FitsColumn c v → may_be c.kind (value_kind v) ≡ true
column_right c Null h = refl
column_right c (Int n) h = ap (λ k. same_kind c.kind k) (sym h.0) ∙ itself c.kind
column_right c (Text t) h = ap (λ k. same_kind c.kind k) (sym h.0) ∙ itself c.kind
column_right c (Truth' b) h = ap (λ k. same_kind c.kind k) (sym h) ∙ itself c.kind

row_has : (columns : List ColumnShape) (values : List Value) → AllZip FitsColumn columns values → HasKinds columns (record { values = values })
row_has [] [] h c k e = refl
row_has [] (v ∷ vs) h c k e = absurd h
row_has (s ∷ ss) [] h c k e = absurd h
row_has (s ∷ ss) (v ∷ vs) h zero k e = ap (λ j. may_be j (value_kind v)) (same_is k s.kind e) ∙ column_right s v h.0
row_has (s ∷ ss) (v ∷ vs) h (suc c) k e = row_has ss vs h.1 c k e

-- the value of a sound expression for a column has the column's kind
value_right : (shape : TableShape) (columns : List ColumnShape) (row : Row) (i : ℕ) (c : ColumnShape) (e : CExpr) → HasKinds columns row → slice_get shape.columns i ≡ Some c → IsSoundValue shape (OfColumns columns) i e
    → may_be c.kind (value_kind (value_of (ctree_of e) (OfRow row))) ≡ true
value_right shape columns row i c e own at s =
    kind_right columns row (ctree_of e) c.kind own (ap (λ (x : ColumnShape). may_be x.kind (kind_in (OfColumns columns) (ctree_of e))) (same_Some c s.column (sym at ∙ s.stands)) ∙ s.sound.of_kind)

-- A VALUE WITHOUT A FAULT

integer_is : (n : ℤ) → in_range (Int n) ≡ true → (negsuc 2147483647 ≤ℤ n) × (n ≤ℤ pos 2147483647)
integer_is (pos n) h = let l = ltb-true n 2147483648 h in (omega (arith, ints), omega (arith, ints))
integer_is (negsuc n) h = let l = ltb-true n 2147483648 h in (omega (arith, ints), omega (arith, ints))

not_not : (b : Bool) → not (not b) ≡ false → b ≡ false
not_not true h = h
not_not false h = refl

null_allowed : (key : Bool) (c : ColumnShape) (place : ℕ) → null_fault key c Null place ≡ None → c.not_null ≡ false
null_allowed true c place h = absurd cc
null_allowed false c place h = (cond_none c.not_null (faults.NullNotAllowed place) None h).0

fits_column : (key : Bool) (c : ColumnShape) (v : Value) (place : ℕ) → null_fault key c v place ≡ None → size_fault c v place ≡ None → may_be c.kind (value_kind v) ≡ true → FitsColumn c v
fits_column key c Null place n s t = null_allowed key c place n
fits_column key c (Int m) place n s t =
    let r = integer_is m (not-false (in_range (Int m)) (cond_none (not (in_range (Int m))) (faults.Range place) None s).0) in
    (same_is c.kind kinds.Int t, r.0, r.1)
fits_column key c (Text x) place n s t = (same_is c.kind kinds.Text t, ltb-false c.max_bytes (length x) (not_not (nat_lt c.max_bytes (length x)) (cond_none (not (not (nat_lt c.max_bytes (length x)))) (faults.TooLong place) None s).0))
fits_column key c (Truth' b) place n s t = same_is c.kind kinds.Bool t

of_kind : (c : ColumnShape) (v : Value) (place : ℕ) → null_fault true c v place ≡ None → may_be c.kind (value_kind v) ≡ true → IsOfKind c.kind v
of_kind c Null place n t = absurd cc
of_kind c (Int m) place n t = same_is c.kind kinds.Int t
of_kind c (Text x) place n t = same_is c.kind kinds.Text t
of_kind c (Truth' b) place n t = same_is c.kind kinds.Bool t

-- no value has a fault
no_value_fault : (shape : TableShape) (s : ℕ) (cs : List ColumnShape) (vs : List Value) (i : ℕ) (c : ColumnShape) (v : Value) → column_fault shape s cs vs ≡ None → slice_get cs i ≡ Some c → slice_get vs i ≡ Some v → value_fault shape c v (s + i) ≡ None
no_value_fault shape s [] vs i c v h e f = absurd (none-some c e)
no_value_fault shape s (x ∷ cs) [] i c v h e f = absurd (none-some v f)
no_value_fault shape s (x ∷ cs) (y ∷ vs) zero c v h e f =
    let first : s + 0 ≡ s = omega arith in
    let a = sym (same_Some x c e) in
    let b = sym (same_Some y v f) in
    (λ j. value_fault shape (a j) (b j) (first j)) ∙ (or_none (value_fault shape x y s) (column_fault shape (s + 1) cs vs) h).0
no_value_fault shape s (x ∷ cs) (y ∷ vs) (suc i) c v h e f =
    let on : s + suc i ≡ (s + 1) + i = omega arith in
    ap (value_fault shape c v) on ∙ no_value_fault shape (s + 1) cs vs i c v (or_none (value_fault shape x y s) (column_fault shape (s + 1) cs vs) h).1 e f

or_true : (b : Bool) → (b || true) ≡ true
or_true true = refl
or_true false = refl

key_is : (ks : List ℕ) (k : ℕ) → Among k ks → list_any (λ j. j == k) ks ≡ true
key_is [] k a = absurd a
key_is (j ∷ ks) k (inl s) = ap (λ b. b || list_any (λ j. j == k) ks) (eq-eqb j k (sym s))
key_is (j ∷ ks) k (inr a) = ap (λ b. (j == k) || b) (key_is ks k a) ∙ or_true (j == k)

picked : (P : ℕ → Value → Type 0) (ks : List ℕ) (vs : List Value) → Each (λ k. P k (get_or vs k Null)) ks → AllZip P ks (pick ks vs)
picked P [] vs h = tt
picked P (k ∷ ks) vs h = (h.0, picked P ks vs h.1)

-- A ROW WHOSE VALUES HAVE THEIR COLUMNS' KINDS AND NO FAULT

module _ (shape : TableShape) (row : Row) (many : length row.values ≡ length shape.columns)
    (own : (i : ℕ) (c : ColumnShape) (v : Value) → slice_get shape.columns i ≡ Some c → slice_get row.values i ≡ Some v → may_be c.kind (value_kind v) ≡ true)
    (right : column_fault shape 0 shape.columns row.values ≡ None) where
  no_fault : (i : ℕ) (c : ColumnShape) (v : Value) → slice_get shape.columns i ≡ Some c → slice_get row.values i ≡ Some v → (null_fault (is_key shape i) c v i ≡ None) × (size_fault c v i ≡ None)
  no_fault i c v e f =
      let first : i ≡ 0 + i = omega arith in
      or_none (null_fault (is_key shape i) c v i) (size_fault c v i) (ap (value_fault shape c v) first ∙ no_value_fault shape 0 shape.columns row.values i c v right e f)

  row_fits : FitsRow shape row
  row_fits = zipped FitsColumn shape.columns row.values (sym many) (λ i c v e f. (let n = no_fault i c v e f in fits_column (is_key shape i) c v i n.0 n.1 (own i c v e f)))

  key_value : (k : ℕ) → Among k shape.key → (c : ColumnShape) → slice_get shape.columns k ≡ Some c → IsOfKind c.kind (get_or row.values k Null)
  key_value k a c e =
      let v = there row.values k (omega (arith, slice_get_within shape.columns k c e, many)) in
      let n : null_fault true c v.0 k ≡ None = ap (λ b. null_fault b c v.0 k) (sym (key_is shape.key k a)) ∙ (no_fault k c v.0 e v.1).0 in
      subst (IsOfKind c.kind) (sym (get_or_from_slice_get row.values k v.0 Null v.1)) (of_kind c v.0 k n (own k c v.0 e v.1))

  key_fits : Each (IsKeyColumn shape) shape.key → FitsKey shape (record { values = pick shape.key row.values })
  key_fits keys = picked (FitsKeyColumn shape.columns) shape.key row.values
      (each_of (λ k. FitsKeyColumn shape.columns k (get_or row.values k Null)) shape.key
      (λ k a. (let c = each_among (IsKeyColumn shape) k shape.key keys a in (c.column, c.stands, key_value k a c.column c.stands))))

-- INSERT

zip_expr : (R : ℕ → CExpr → Type 0) (columns : List ℕ) (tuple : List CExpr) (c : ℕ) (e : CExpr) → AllZip R columns tuple → expr_for columns tuple c ≡ Some e → R c e
zip_expr R [] tuple c e h f = absurd (none-some e f)
zip_expr R (t ∷ ts) [] c e h f = absurd (none-some e f)
zip_expr R (t ∷ ts) (x ∷ xs) c e h f = go (t == c) refl f (λ g. zip_expr R ts xs c e h.1 g)
  where
    go : (b : Bool) → (t == c) ≡ b → cond b (Some x) (expr_for ts xs c) ≡ Some e → (expr_for ts xs c ≡ Some e → R c e) → R c e
    go true q g again = subst (λ k. R k e) (eqb-true t c q) (subst (R t) (same_Some x e g) h.0)
    go false q g again = again g

module _ (shape : TableShape) (columns : List ℕ) (tuple : List CExpr) (sound : AllZip (IsSoundValue shape (OfColumns [])) columns tuple) where
  abbrev new_row : Row
  new_row = row_of shape columns tuple

  new_many : length new_row.values ≡ length shape.columns
  new_many = length-map-range_with_len (given columns (map plain_value tuple)) 0 (length shape.columns)

  new_value : (i : ℕ) (v : Value) → slice_get new_row.values i ≡ Some v → v ≡ given columns (map plain_value tuple) i
  new_value i v e =
      let inside : i < length shape.columns = omega (arith, slice_get_within new_row.values i v e, new_many) in
      sym (get_or_from_slice_get new_row.values i v Null e) ∙ get_or-map-range_with_len (given columns (map plain_value tuple)) 0 (length shape.columns) i i Null inside (omega arith)

  new_own : (i : ℕ) (c : ColumnShape) (v : Value) → slice_get shape.columns i ≡ Some c → slice_get new_row.values i ≡ Some v → may_be c.kind (value_kind v) ≡ true
  new_own i c v e f = ap (λ x. may_be c.kind (value_kind x)) (new_value i v f) ∙ go (expr_for columns tuple i) refl
    where
      go : (o : Option CExpr) → expr_for columns tuple i ≡ o → may_be c.kind (value_kind (given columns (map plain_value tuple) i)) ≡ true
      go None q = ap (λ x. may_be c.kind (value_kind x)) (given_none columns tuple i q)
      go (Some x) q = ap (λ x. may_be c.kind (value_kind x)) (given_some columns tuple i x q) ∙ value_right shape [] no_values i c x nothing_has e (zip_expr (IsSoundValue shape (OfColumns [])) columns tuple i x sound q)

  pub insert_fits : (shapes : Shapes) (table : TableNo) → slice_get shapes.tables table.0 ≡ Some shape → Each (IsKeyColumn shape) shape.key → column_fault shape 0 shape.columns new_row.values ≡ None → FitsWrite shapes (write_of table shape new_row)
  insert_fits shapes table at keys right = (shape, at, key_fits shape new_row new_many new_own right keys, (row_fits shape new_row new_many new_own right, refl))

-- UPDATE

module _ (shape : TableShape) (sets : List CheckedSet) (condition : Option CExpr) (sound : IsSoundUpdate shape sets condition) (row : Row) (fits : FitsRow shape row) where
  abbrev value : ℕ → Value
  value c = value_set (find (λ s. s.column == c) sets) row (slice_index_or row.values c Null)

  old_many : length shape.columns ≡ length row.values
  old_many = zip_length FitsColumn shape.columns row.values fits

  set_many : length (updated sets row).values ≡ length shape.columns
  set_many = length-map-range_with_len value 0 (length row.values) ∙ sym old_many

  set_value : (i : ℕ) (v : Value) → slice_get (updated sets row).values i ≡ Some v → v ≡ value i
  set_value i v e =
      let inside : i < length row.values = omega (arith, slice_get_within (updated sets row).values i v e, set_many, old_many) in
      sym (get_or_from_slice_get (updated sets row).values i v Null e) ∙ get_or-map-range_with_len value 0 (length row.values) i i Null inside (omega arith)

  set_own : (i : ℕ) (c : ColumnShape) (v : Value) → slice_get shape.columns i ≡ Some c → slice_get (updated sets row).values i ≡ Some v → may_be c.kind (value_kind v) ≡ true
  set_own i c v e f = ap (λ x. may_be c.kind (value_kind x)) (set_value i v f) ∙ go (find (λ s. s.column == i) sets) refl
    where
      has : HasKinds shape.columns row
      has = row_has shape.columns row.values fits

      found : (xs : List CheckedSet) (s : CheckedSet) → find (λ s. s.column == i) xs ≡ Some s → s.column ≡ i
      found [] s q = absurd (none-some s q)
      found (x ∷ xs) s q = here (x.column == i) refl q (λ r. found xs s r)
        where
          here : (b : Bool) → (x.column == i) ≡ b → cond b (Some x) (find (λ s. s.column == i) xs) ≡ Some s → (find (λ s. s.column == i) xs ≡ Some s → s.column ≡ i) → s.column ≡ i
          here true p r again = ap (λ (y : CheckedSet). y.column) (sym (same_Some x s r)) ∙ eqb-true x.column i p
          here false p r again = again r

      go : (o : Option CheckedSet) → find (λ s. s.column == i) sets ≡ o → may_be c.kind (value_kind (value_set o row (slice_index_or row.values i Null))) ≡ true
      go None q = has i c.kind (ap (λ o. may_be c.kind (option_map (λ t. t.kind) (option_map (λ s. typed s.kind) o))) e ∙ itself c.kind)
      go (Some s) q = value_right shape shape.columns row i c s.value has e
          (subst (λ k. IsSoundValue shape (OfColumns shape.columns) k s.value) (found sets s q) (found_one (λ s. IsSoundValue shape (OfColumns shape.columns) s.column s.value) (λ s. s.column == i) sets s sound.values q))

  -- a key column is as it was
  unset : (k : ℕ) → Contains shape.key k → (xs : List CheckedSet) → Each (λ s. Contains shape.key s.column → ⊥) xs → find (λ s. s.column == k) xs ≡ None
  unset k m [] h = refl
  unset k m (x ∷ xs) h = go (x.column == k) refl (unset k m xs h.1)
    where
      go : (b : Bool) → (x.column == k) ≡ b → find (λ s. s.column == k) xs ≡ None → cond b (Some x) (find (λ s. s.column == k) xs) ≡ None
      go true q again = absurd (h.0 (subst (Contains shape.key) (sym (eqb-true x.column k q)) m))
      go false q again = again

  key_kept : (ks : List ℕ) → ((k : ℕ) → Contains ks k → Contains shape.key k) → Each (IsKeyColumn shape) ks → pick ks (updated sets row).values ≡ pick ks row.values
  key_kept [] m h = refl
  key_kept (k ∷ ks) m h =
      let inside : k < length row.values = omega (arith, slice_get_within shape.columns k h.0.column h.0.stands, old_many) in
      let first : slice_index_or (updated sets row).values k Null ≡ slice_index_or row.values k Null =
      get_or-map-range_with_len value 0 (length row.values) k k Null inside (omega arith)
      ∙ ap (λ o. value_set o row (slice_index_or row.values k Null)) (unset k (m k (in_here k ks k refl)) sets sound.no_key) in
      let rest = key_kept ks (λ j n. m j (in_there k ks j n)) h.1 in
      λ i. first i ∷ rest i

  pub update_fits : (shapes : Shapes) (s : Stored) → s.row ≡ row → slice_get shapes.tables s.table.0 ≡ Some shape → FitsKey shape s.key → pick shape.key row.values ≡ s.key.values → Each (IsKeyColumn shape) shape.key
      → column_fault shape 0 shape.columns (updated sets s.row).values ≡ None → FitsWrite shapes (update_of sets s)
  update_fits shapes s e at key own keys right = (
    shape,
    at,
    key,
    subst (λ r. FitsBoth shape s.key (updated sets r)) (sym e)
        (row_fits shape (updated sets row) set_many set_own (ap (λ r. column_fault shape 0 shape.columns (updated sets r).values) (sym e) ∙ right), key_kept shape.key (λ k m. m) keys ∙ own),
  )

-- THE ROWS OF A CHANGE

both_each : {X Y : Type 0} (P : X → Type 0) (Q R : Y → Type 0) (f : X → Y) → ((x : X) → P x → Q (f x) → R (f x)) → (xs : List X) → Each P xs → Each Q (map f xs) → Each R (map f xs)
both_each P Q R f h [] a b = tt
both_each P Q R f h (x ∷ xs) a b = (h x a.0 b.0, both_each P Q R f h xs a.1 b.1)

abbrev Right : TableShape → Write → Type 0
Right shape w = columns_fault shape w.row ≡ None

module _ (shapes : Shapes) (table : TableNo) (shape : TableShape) (at : slice_get shapes.tables table.0 ≡ Some shape) (sound : IsSoundTable shape) (tables : Tables) (fit : FitTables shapes tables) where
  -- a row of the table, which fits
  record Held (s : Stored) : Type 0 where
    own : (s.table.0 == table.0) ≡ true
    stored : FitsStored shapes s

  held : (rows : List Stored) → Each (λ s. (s.table.0 == table.0) ≡ true) rows → Each (FitsStored shapes) rows → Each Held rows
  held [] a b = tt
  held (s ∷ rows) a b = (record { own = a.0; stored = b.0 }, held rows a.1 b.1)

  all_held : Each Held (held_in table tables)
  all_held = held (held_in table tables) (each_kept (λ s. s.table.0 == table.0) tables) (each_filter (FitsStored shapes) (λ s. s.table.0 == table.0) tables fit.each)

  shape_at : (s : Stored) → Held s → slice_get shapes.tables s.table.0 ≡ Some shape
  shape_at s h = ap (slice_get shapes.tables) (eqb-true s.table.0 table.0 h.own) ∙ at

  key_at : (s : Stored) → Held s → FitsKey shape s.key
  key_at s h = subst (λ x. FitsKey x s.key) (same_Some h.stored.0 shape (sym h.stored.1 ∙ shape_at s h)) h.stored.2

  update_each : (sets : List CheckedSet) (condition : Option CExpr) → IsSoundUpdate shape sets condition → (rows : List Stored) → Each Held rows → Each (Right shape) (map (update_of sets) rows) → Each (FitsWrite shapes) (map (update_of sets) rows)
  update_each sets condition h rows a r = both_each Held (Right shape) (FitsWrite shapes) (update_of sets)
      (λ s k q. (let f = subst (λ x. FitsBoth x s.key s.row) (same_Some k.stored.0 shape (sym k.stored.1 ∙ shape_at s k)) k.stored.3 in
      update_fits shape sets condition h s.row f.0 shapes s refl (shape_at s k) (key_at s k) f.1 sound.key q)) rows a r

  delete_each : (rows : List Stored) → Each Held rows → Each (FitsWrite shapes) (map delete_of rows)
  delete_each [] a = tt
  delete_each (s ∷ rows) a = ((shape, shape_at s a.0, key_at s a.0, tt), delete_each rows a.1)

-- what a change proposes fits, where no row's columns have a fault
proposed_fit : (shapes : Shapes) (shape : TableShape) (tables : Tables) (change : CheckedChange) → slice_get shapes.tables (table_of change).0 ≡ Some shape → IsSoundTable shape → FitTables shapes tables → IsSoundFor shape change
    → Each (Right shape) (proposed shape tables change) → Each (FitsWrite shapes) (proposed shape tables change)
proposed_fit shapes shape tables (Insert t columns tuples) at sound fit s r =
    both_each (AllZip (IsSoundValue shape (OfColumns [])) columns) (Right shape) (FitsWrite shapes) (λ tuple. write_of t shape (row_of shape columns tuple))
    (λ tuple z q. insert_fits shape columns tuple z shapes t at sound.key q) tuples s.values r
proposed_fit shapes shape tables (Update t sets condition) at sound fit s r =
    update_each shapes t shape at sound tables fit sets condition s (taken t condition tables)
    (each_filter (Held shapes t shape at sound tables fit) (λ x. takes condition x.row) (held_in t tables) (all_held shapes t shape at sound tables fit)) r
proposed_fit shapes shape tables (Delete t condition) at sound fit s r =
    delete_each shapes t shape at sound tables fit (taken t condition tables)
    (each_filter (Held shapes t shape at sound tables fit) (λ x. takes condition x.row) (held_in t tables) (all_held shapes t shape at sound tables fit))

all_fit : (shapes : Shapes) (writes ws : List Write) → FitWrites shapes writes → Each (FitsWrite shapes) ws → FitWrites shapes (with_writes writes ws)
all_fit shapes writes [] h f = h
all_fit shapes writes (w ∷ ws) h f = all_fit shapes (merge writes (w ∷ [])) ws (merge_each named place_cmp places (FitsWrite shapes) writes (w ∷ []) h (f.0, tt)) f.1

pub effects_fit : EffectsFit
effects_fit shapes tables given change writes rows sound change_sound fit given_fit does =
    let same : change_sound.table ≡ does.shape = same_Some change_sound.table does.shape (sym change_sound.stands ∙ does.shape_at) in
    let right : Each (Right does.shape) (proposed does.shape tables change) = each_cut (Right does.shape) (proposed does.shape tables change)
    (λ front back w e. (or_none (columns_fault does.shape w.row) _ (does.done.right front back w e)).0) in
    subst (FitWrites shapes) (sym does.done.written) (all_fit shapes given.list (proposed does.shape tables change) given_fit
    (proposed_fit shapes does.shape tables change does.shape_at (table_sound shapes (table_of change) does.shape sound does.shape_at) fit (subst (λ x. IsSoundFor x change) same change_sound.sound) right))
