-- The order of values, of rows and of the places of writes is total, and what compares equal is equal.
use Rattle.std.proofs.Common.{◌≡◌, Bool, true, false, refl, ap}
use Rattle.std.specs.declared.cmp.Ordering.{Ordering}
use Rattle.std.specs.declared.cmp.Ordering.TheVariants.{Less, Equal, Greater}
use Rattle.std.specs.Cmp.{IsTotalOrder, IsEquivalence, IsPartialEquivalence, IsPartialOrder, nat_cmp_total, int_cmp_total, bool_cmp_total, partial_equiv_from_equiv, eq_by_cmp_equiv, po}
use Rattle.std.specs.Cmp.Lexicographic.{lists_total, slice_cmp}
use Rattle.std.specs.FinMap.{slice_cmp-IsAntisymmetric}
use Rattle.std.proofs.lemmas.Cmp.{on_total, then_total}
use Rattle.std.proofs.lemmas.Map.Lookups.{exact_signed, exact_unsigned, exact_bytes}
use Rattle.std.specs.Ordering.{ordering_then, nat_cmp, int_cmp, bool_cmp, on, eq_by_cmp, as_partial_cmp}
use Rattle.pg_keyed.specs.Orders.{Exact}
use Rattle.pg_value.specs.declared.value.Value.{Value}
use Rattle.pg_value.specs.declared.value.Value.TheVariants.{Null, Int, Text, Bool as BoolV}
use Rattle.pg_value.specs.declared.row.Row.{Row}
use Rattle.pg_value.specs.Order.{value_cmp, row_cmp, key_cmp, class, number, bytes, truth, Place, place_cmp}

pub value_total : IsTotalOrder value_cmp
value_total = then_total (on_total class nat_cmp_total) (then_total (on_total number int_cmp_total) (then_total (on_total bytes (lists_total nat_cmp_total)) (on_total truth bool_cmp_total)))

then_equal : (r s : Ordering) → ordering_then r s ≡ Equal → (r ≡ Equal) × (s ≡ Equal)
then_equal Less s h = cc
then_equal Equal s h = (refl, h)
then_equal Greater s h = cc

exact_bool : (a b : Bool) → bool_cmp a b ≡ Equal → a ≡ b
exact_bool true true h = refl
exact_bool true false h = cc
exact_bool false true h = cc
exact_bool false false h = refl

-- values that compare equal are equal
pub value_exact : (a b : Value) → value_cmp a b ≡ Equal → a ≡ b
value_exact Null Null h = refl
value_exact Null (Int n) h = cc
value_exact Null (Text t) h = cc
value_exact Null (BoolV q) h = cc
value_exact (Int m) Null h = cc
value_exact (Int m) (Int n) h = ap Int (exact_signed m n (then_equal (int_cmp m n) _ h).0)
value_exact (Int m) (Text t) h = cc
value_exact (Int m) (BoolV q) h = cc
value_exact (Text s) Null h = cc
value_exact (Text s) (Int n) h = cc
value_exact (Text s) (Text t) h = ap Text (exact_bytes s t (then_equal (slice_cmp nat_cmp s t) _ h).0)
value_exact (Text s) (BoolV q) h = cc
value_exact (BoolV p) Null h = cc
value_exact (BoolV p) (Int n) h = cc
value_exact (BoolV p) (Text t) h = cc
value_exact (BoolV p) (BoolV q) h = ap BoolV (exact_bool p q h)

-- so it is with lists of values, that is with keys and rows
pub keys : Exact key_cmp
keys = record { total = lists_total value_total; exact = slice_cmp-IsAntisymmetric value_exact }

-- and with places: a table and a key
place_exact : (a b : Place) → place_cmp a b ≡ Equal → a ≡ b
place_exact a b h =
    let t = then_equal (nat_cmp a.0 b.0) _ h in
    let p : a.0 ≡ b.0 = exact_unsigned a.0 b.0 t.0 in
    let q : a.1 ≡ b.1 = keys.exact a.1 b.1 t.1 in
    λ i. (p i, q i)

pub places : Exact place_cmp
places = record { total = then_total (on_total (λ (p : Place). p.0) nat_cmp_total) (on_total (λ (p : Place). p.1) (lists_total value_total)); exact = place_exact }

-- the order of rows, as sorting takes it
abbrev pub row_order : Row → Row → Ordering
row_order = on (λ r. r.values) row_cmp

abbrev pub same_row : Row → Row → Bool
same_row = eq_by_cmp row_order

pub row_total : IsTotalOrder row_order
row_total = on_total (λ r. r.values) (lists_total value_total)

pub row_equivalence : IsEquivalence same_row
row_equivalence = eq_by_cmp_equiv row_total

pub row_partial : IsPartialEquivalence same_row
row_partial = partial_equiv_from_equiv row_equivalence

pub row_partial_order : IsPartialOrder same_row (as_partial_cmp row_order)
row_partial_order = po row_total (λ x y. refl)
