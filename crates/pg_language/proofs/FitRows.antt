-- A row whose values have the kinds of their columns, and of which none has a fault, fits its table, and its key fits the table's key.
use Rattle.std.proofs.Common.{ℕ, zero, suc, ◌≡◌, ◌+◌, ◌<◌, Bool, true, false, cond, refl, ap, sym, subst, ◌∙◌, List, [], ◌∷◌, length, get_or, arith, inl, inr, eq-eqb}
use Rattle.std.specs.Prelude.{ℤ, pos, negsuc, ◌≤ℤ◌, not, ◌==◌, ◌||◌, slice_get, nat_lt}
use Rattle.std.specs.declared.option.Option.{Option}
use Rattle.std.specs.declared.option.Option.TheVariants.{Some, None}
use Rattle.std.specs.List.{list_any, AllZip}
use Rattle.std.proofs.lemmas.Bool.{not-false, ltb-true, ltb-false}
use Rattle.std.proofs.lemmas.Int.{ints}
use Rattle.std.proofs.lemmas.Option.{none-some, same_Some, slice_get_within, get_or_from_slice_get}
use Rattle.pg_keyed.specs.Lists.{Each, Among, each_among, each_of}
use Rattle.pg_value.specs.declared.value.Kind.{Kind}
use Rattle.pg_value.specs.declared.value.Kind.TheVariants as kinds
use Rattle.pg_value.specs.declared.value.Value.{Value}
use Rattle.pg_value.specs.declared.value.Value.TheVariants.{Null, Int, Text, Bool as Truth}
use Rattle.pg_value.specs.declared.row.Row.{Row}
use Rattle.pg_value.specs.declared.shape.ColumnShape.{ColumnShape}
use Rattle.pg_value.specs.declared.shape.TableShape.{TableShape}
use Rattle.pg_value.specs.Kinds.{same_kind}
use Rattle.pg_value.specs.Tables.{pick, FitsColumn, FitsRow, FitsKeyColumn, FitsKey, IsOfKind}
use Rattle.pg_meaning.specs.Typing.{may_be, value_kind}
use Rattle.pg_rules.specs.declared.fault.RowFault.{RowFault}
use Rattle.pg_rules.specs.declared.fault.RowFault.TheVariants as faults
use Rattle.pg_rules.specs.Changes.InsertEffect.{in_range, is_key, null_fault, size_fault, value_fault, column_fault, or_else}
use Rattle.pg_language.proofs.ValueKinds.{false_true}

-- LISTS

-- what holds of the items at each place holds of both lists
zipped : {X Y : Type 0} (R : X → Y → Type 0) (xs : List X) (ys : List Y) → length xs ≡ length ys → ((i : ℕ) (x : X) (y : Y) → slice_get xs i ≡ Some x → slice_get ys i ≡ Some y → R x y) → AllZip R xs ys
zipped R [] [] e h = tt
zipped R [] (y ∷ ys) e h = absurd (omega arith)
zipped R (x ∷ xs) [] e h = absurd (omega arith)
zipped R (x ∷ xs) (y ∷ ys) e h = (h 0 x y refl refl, zipped R xs ys (omega arith) (λ i. h (suc i)))

there : {X : Type 0} (xs : List X) (i : ℕ) → i < length xs → (x : X) × (slice_get xs i ≡ Some x)
there [] i h = absurd (omega arith)
there (x ∷ xs) zero h = (x, refl)
there (x ∷ xs) (suc i) h = there xs i (omega arith)

-- NO FAULT

pub or_none : (a b : Option RowFault) → or_else a b ≡ None → (a ≡ None) × (b ≡ None)
or_none None b h = (refl, h)
or_none (Some f) b h = absurd cc

cond_none : (b : Bool) (f : RowFault) (o : Option RowFault) → cond b (Some f) o ≡ None → (b ≡ false) × (o ≡ None)
cond_none true f o h = absurd cc
cond_none false f o h = (refl, h)

-- A VALUE

same_is : (j k : Kind) → same_kind j k ≡ true → j ≡ k
same_is kinds.Int kinds.Int h = refl
same_is kinds.Int kinds.Text h = false_true h
same_is kinds.Int kinds.Bool h = false_true h
same_is kinds.Text kinds.Int h = false_true h
same_is kinds.Text kinds.Text h = refl
same_is kinds.Text kinds.Bool h = false_true h
same_is kinds.Bool kinds.Int h = false_true h
same_is kinds.Bool kinds.Text h = false_true h
same_is kinds.Bool kinds.Bool h = refl

integer_is : (n : ℤ) → in_range (Int n) ≡ true → (negsuc 2147483647 ≤ℤ n) × (n ≤ℤ pos 2147483647)
integer_is (pos n) h = let l = ltb-true n 2147483648 h in (omega (arith, ints), omega (arith, ints))
integer_is (negsuc n) h = let l = ltb-true n 2147483648 h in (omega (arith, ints), omega (arith, ints))

not_not : (b : Bool) → not (not b) ≡ false → b ≡ false
not_not true h = h
not_not false h = refl

null_allowed : (key : Bool) (c : ColumnShape) (place : ℕ) → null_fault key c Null place ≡ None → c.not_null ≡ false
null_allowed true c place h = absurd cc
null_allowed false c place h = (cond_none c.not_null (faults.NullNotAllowed place) None h).0

fits_column : (key : Bool) (c : ColumnShape) (v : Value) (place : ℕ) → null_fault key c v place ≡ None → size_fault c v place ≡ None → may_be c.kind (value_kind v) ≡ true → FitsColumn c v
fits_column key c Null place n s t = null_allowed key c place n
fits_column key c (Int m) place n s t =
    let r = integer_is m (not-false (in_range (Int m)) (cond_none (not (in_range (Int m))) (faults.Range place) None s).0) in
    (same_is c.kind kinds.Int t, r.0, r.1)
fits_column key c (Text x) place n s t = (same_is c.kind kinds.Text t, ltb-false c.max_bytes (length x) (not_not (nat_lt c.max_bytes (length x)) (cond_none (not (not (nat_lt c.max_bytes (length x)))) (faults.TooLong place) None s).0))
fits_column key c (Truth b) place n s t = same_is c.kind kinds.Bool t

of_kind : (c : ColumnShape) (v : Value) (place : ℕ) → null_fault true c v place ≡ None → may_be c.kind (value_kind v) ≡ true → IsOfKind c.kind v
of_kind c Null place n t = absurd cc
of_kind c (Int m) place n t = same_is c.kind kinds.Int t
of_kind c (Text x) place n t = same_is c.kind kinds.Text t
of_kind c (Truth b) place n t = same_is c.kind kinds.Bool t

-- no value has a fault
value_right : (shape : TableShape) (s : ℕ) (cs : List ColumnShape) (vs : List Value) (i : ℕ) (c : ColumnShape) (v : Value) → column_fault shape s cs vs ≡ None → slice_get cs i ≡ Some c → slice_get vs i ≡ Some v → value_fault shape c v (s + i) ≡ None
value_right shape s [] vs i c v h e f = absurd (none-some c e)
value_right shape s (x ∷ cs) [] i c v h e f = absurd (none-some v f)
value_right shape s (x ∷ cs) (y ∷ vs) zero c v h e f =
    let first : s + 0 ≡ s = omega arith in
    let a = sym (same_Some x c e) in
    let b = sym (same_Some y v f) in
    (λ j. value_fault shape (a j) (b j) (first j)) ∙ (or_none (value_fault shape x y s) (column_fault shape (s + 1) cs vs) h).0
value_right shape s (x ∷ cs) (y ∷ vs) (suc i) c v h e f =
    let on : s + suc i ≡ (s + 1) + i = omega arith in
    ap (value_fault shape c v) on ∙ value_right shape (s + 1) cs vs i c v (or_none (value_fault shape x y s) (column_fault shape (s + 1) cs vs) h).1 e f

or_true : (b : Bool) → (b || true) ≡ true
or_true true = refl
or_true false = refl

key_is : (ks : List ℕ) (k : ℕ) → Among k ks → list_any (λ j. j == k) ks ≡ true
key_is [] k a = absurd a
key_is (j ∷ ks) k (inl s) = ap (λ b. b || list_any (λ j. j == k) ks) (eq-eqb j k (sym s))
key_is (j ∷ ks) k (inr a) = ap (λ b. (j == k) || b) (key_is ks k a) ∙ or_true (j == k)

picked : (P : ℕ → Value → Type 0) (ks : List ℕ) (vs : List Value) → Each (λ k. P k (get_or vs k Null)) ks → AllZip P ks (pick ks vs)
picked P [] vs h = tt
picked P (k ∷ ks) vs h = (h.0, picked P ks vs h.1)

-- A ROW

-- the column at a place of the key stands
abbrev pub Stands : TableShape → ℕ → Type 0
Stands shape k = (c : ColumnShape) × (slice_get shape.columns k ≡ Some c)

-- the value at each place has the kind of the column there, or is NULL
abbrev pub HasKinds : TableShape → Row → Type 0
HasKinds shape row = (i : ℕ) (c : ColumnShape) (v : Value) → slice_get shape.columns i ≡ Some c → slice_get row.values i ≡ Some v → may_be c.kind (value_kind v) ≡ true

module _ (shape : TableShape) (row : Row) (many : length row.values ≡ length shape.columns) (has : HasKinds shape row) (right : column_fault shape 0 shape.columns row.values ≡ None) where
  no_fault : (i : ℕ) (c : ColumnShape) (v : Value) → slice_get shape.columns i ≡ Some c → slice_get row.values i ≡ Some v → (null_fault (is_key shape i) c v i ≡ None) × (size_fault c v i ≡ None)
  no_fault i c v e f =
      let first : i ≡ 0 + i = omega arith in
      or_none (null_fault (is_key shape i) c v i) (size_fault c v i) (ap (value_fault shape c v) first ∙ value_right shape 0 shape.columns row.values i c v right e f)

  pub row_fits : FitsRow shape row
  row_fits = zipped FitsColumn shape.columns row.values (sym many)
      (λ i c v e f. (let n = no_fault i c v e f in fits_column (is_key shape i) c v i n.0 n.1 (has i c v e f)))

  key_value : (k : ℕ) → Among k shape.key → (c : ColumnShape) → slice_get shape.columns k ≡ Some c → IsOfKind c.kind (get_or row.values k Null)
  key_value k a c e =
      let v = there row.values k (omega (arith, slice_get_within shape.columns k c e, many)) in
      let n : null_fault true c v.0 k ≡ None = ap (λ b. null_fault b c v.0 k) (sym (key_is shape.key k a)) ∙ (no_fault k c v.0 e v.1).0 in
      subst (IsOfKind c.kind) (sym (get_or_from_slice_get row.values k v.0 Null v.1)) (of_kind c v.0 k n (has k c v.0 e v.1))

  pub key_fits : Each (Stands shape) shape.key → FitsKey shape (record { values = pick shape.key row.values })
  key_fits keys = picked (FitsKeyColumn shape.columns) shape.key row.values
      (each_of (λ k. FitsKeyColumn shape.columns k (get_or row.values k Null)) shape.key
      (λ k a. (let c = each_among (Stands shape) k shape.key keys a in (c.0, c.1, key_value k a c.0 c.1))))
