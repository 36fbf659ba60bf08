-- Values, keys and elements as keys of maps: they are equal where their order finds them equal, which is where they are one,
-- and what is equal is hashed alike.
use Rattle.std.specs.Prelude.{Bool, true, ◌++◌}
use Rattle.std.proofs.Common.{◌≡◌, refl}
use Rattle.std.specs.declared.cmp.Ordering.{Ordering}
use Rattle.std.specs.declared.cmp.Ordering.TheVariants.{Less, Equal, Greater}
use Rattle.std.specs.Hash as fed
use Rattle.std.specs.Cmp.{IsEquivalence, IsPartialEquivalence, partial_equiv_from_equiv, eq_by_cmp_equiv}
use Rattle.std.specs.Ordering.{is_eq, on, eq_by_cmp}
use Rattle.std.proofs.lemmas.Cmp.{on_total}
use Rattle.pg_value.specs.declared.value.Value.{Value}
use Rattle.pg_value.specs.declared.value.Value.TheVariants.{Null, Int, Text, Bool as BoolV}
use Rattle.pg_value.specs.declared.row.Key.{Key}
use Rattle.pg_value.specs.declared.shape.ElemId.{ElemId}
use Rattle.pg_value.specs.Order.{value_cmp, key_cmp, place_cmp}
use Rattle.pg_value.specs.Orders.{value_total, value_exact, keys, places}
use Rattle.pg_value.specs.Graph.{elem_place, same_elem}

-- what is fed to a hasher
abbrev pub value_writes : Value → fed.HashWrites
value_writes Null = fed.u8 0
value_writes (Int n) = fed.i128 n
value_writes (Text t) = fed.str t
value_writes (BoolV b) = fed.bool b

abbrev pub key_writes : Key → fed.HashWrites
key_writes k = fed.slice value_writes k.values

abbrev pub elem_writes : ElemId → fed.HashWrites
elem_writes e = fed.u32 e.table.0 ++ key_writes e.key

-- what is equal
abbrev pub same_value : Value → Value → Bool
same_value = eq_by_cmp value_cmp

abbrev pub key_order : Key → Key → Ordering
key_order = on (λ k. k.values) key_cmp

abbrev pub same_key : Key → Key → Bool
same_key = eq_by_cmp key_order

abbrev pub elem_order : ElemId → ElemId → Ordering
elem_order = on elem_place place_cmp

is_equal : (order : Ordering) → is_eq order ≡ true → order ≡ Equal
is_equal Less h = cc
is_equal Equal h = refl
is_equal Greater h = cc

pub value_equivalence : IsEquivalence same_value
value_equivalence = eq_by_cmp_equiv value_total

pub value_partial : IsPartialEquivalence same_value
value_partial = partial_equiv_from_equiv value_equivalence

pub one_value : (a b : Value) → same_value a b ≡ true → a ≡ b
one_value a b h = value_exact a b (is_equal (value_cmp a b) h)

pub key_equivalence : IsEquivalence same_key
key_equivalence = eq_by_cmp_equiv (on_total (λ k. k.values) keys.total)

pub key_partial : IsPartialEquivalence same_key
key_partial = partial_equiv_from_equiv key_equivalence

pub one_key : (a b : Key) → same_key a b ≡ true → a ≡ b
one_key a b h = let e = keys.exact a.values b.values (is_equal (key_cmp a.values b.values) h) in λ i. record { values = e i }

pub elem_equivalence : IsEquivalence same_elem
elem_equivalence = eq_by_cmp_equiv (on_total elem_place places.total)

pub elem_partial : IsPartialEquivalence same_elem
elem_partial = partial_equiv_from_equiv elem_equivalence

pub one_elem : (a b : ElemId) → same_elem a b ≡ true → a ≡ b
one_elem a b h =
    let e = places.exact (elem_place a) (elem_place b) (is_equal (place_cmp (elem_place a) (elem_place b)) h) in
    λ i. record { table = record { 0 = (e i).0 }; key = record { values = (e i).1 } }
