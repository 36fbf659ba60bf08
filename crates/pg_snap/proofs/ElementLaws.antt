-- The elements of some tables, table by table.
use Rattle.std.proofs.Common.{ℕ, suc, ◌≡◌, ◌≤◌, ◌<◌, ◌+◌, ◌^◌, ◌==◌, List, [], ◌∷◌, ◌++◌, map, Bool, true, false, cond, refl, ap, sym, ◌∙◌, arith, inl, inr}
use Rattle.std.proofs.Math.Dec.{leb}
use Rattle.std.proofs.lemmas.Bool.{eqb-true, eq-eqb, leb-true, le-leb}
use Rattle.std.proofs.lemmas.Bool.Decides.{leb_tells}
use Rattle.std.proofs.lemmas.Nat.Bits.{bit_at_above}
use Rattle.std.specs.Int.{bit_at}
use Rattle.std.specs.List.{filter}
use Rattle.std.specs.declared.cmp.Ordering.{Ordering}
use Rattle.std.specs.declared.cmp.Ordering.TheVariants.{Less, Greater}
use Rattle.std.specs.Ordering.{nat_cmp, ordering_then}
use Rattle.std.specs.Cmp.{nat_cmp_is}
use Rattle.pg_keyed.specs.Lists.{Each, each_map}
use Rattle.pg_keyed.specs.Keyed.{Above}
use Rattle.pg_value.specs.declared.shape.TableNo.{TableNo}
use Rattle.pg_value.specs.declared.shape.TableSet.{TableSet}
use Rattle.pg_value.specs.declared.shape.ElemId.{ElemId}
use Rattle.pg_value.specs.Order.{place_cmp}
use Rattle.pg_value.specs.Tables.{Stored, Tables, place_of, IsInOrder, held_in}
use Rattle.pg_value.specs.Graph.{elem_of}
use Rattle.pg_meaning.specs.Reads.{elements_of}

true_false : true ≡ false → ⊥
true_false h = cc

le_false : (a b : ℕ) → b < a → leb a b ≡ false
le_false a b l = go (leb a b) refl
  where
    go : (c : Bool) → leb a b ≡ c → leb a b ≡ false
    go true e = absurd (let h = leb-true a b e in omega (arith, h, l))
    go false e = e

differ : (s n : ℕ) → (s ≡ n → ⊥) → (s == n) ≡ false
differ s n h = go (s == n) refl
  where
    go : (b : Bool) → (s == n) ≡ b → (s == n) ≡ false
    go true e = absurd (h (eqb-true s n e))
    go false e = e

-- the elements of the first n tables
abbrev pub first_elements : TableSet → ℕ → Tables → List ElemId
first_elements set n tables = map elem_of (filter (λ s. bit_at set.0 s.table.0 == 1) (filter (λ s. leb (suc s.table.0) n) tables))

abbrev below : ℕ → Tables → Tables
below n ss = filter (λ s. leb (suc s.table.0) n) ss

abbrev own : ℕ → Tables → Tables
own n ss = filter (λ s. s.table.0 == n) ss

not_below : (t u : ℕ) (r : Ordering) → ordering_then (nat_cmp t u) r ≡ Less → t ≤ u
not_below t u r h = elim (leb_tells t u) [ inl x ↦ x.1 | inr x ↦ absurd (less_is (nat_cmp t u) (sym (nat_cmp_is t u Greater x.1)) h) ]
  where
    less_is : (o : Ordering) → o ≡ Greater → ordering_then o r ≡ Less → ⊥
    less_is o e k = cc

later : (s : Stored) (ss : Tables) → Above place_of place_cmp (place_of s) ss → Each (λ r. s.table.0 ≤ r.table.0) ss
later s ss a = each_map (λ r. place_cmp (place_of s) (place_of r) ≡ Less) (λ r. s.table.0 ≤ r.table.0) (λ r h. not_below s.table.0 r.table.0 _ h) ss a

none_below : (n : ℕ) (ss : Tables) → Each (λ r. n ≤ r.table.0) ss → below n ss ≡ []
none_below n [] h = refl
none_below n (s ∷ ss) h = rw (le_false (suc s.table.0) n (let l = h.0 in omega (arith, l))) (none_below n ss h.1)

parts : (n : ℕ) (ss : Tables) → IsInOrder ss → below (suc n) ss ≡ below n ss ++ own n ss
parts n [] a = refl
parts n (s ∷ ss) a = elim (leb_tells (suc s.table.0) n) [
  | inl x ↦ (let l = x.1 in let r = parts n ss a.1 in
      rw (le-leb (suc s.table.0) (suc n) (omega (arith, l))) (rw x.0 (rw (differ s.table.0 n (λ e. omega (arith, l, e))) (ap (λ xs. s ∷ xs) r))))
  | inr x ↦ elim (leb_tells s.table.0 n) [
    | inl y ↦ (let l = x.1 in let m = y.1 in let r = parts n ss a.1 in
        let none = none_below n ss (each_map (λ q. s.table.0 ≤ q.table.0) (λ q. n ≤ q.table.0) (λ q h. omega (arith, h, l)) ss (later s ss a.0)) in
        rw (le-leb (suc s.table.0) (suc n) (omega (arith, m))) (rw x.0 (rw (eq-eqb s.table.0 n (omega (arith, l, m))) (ap (λ xs. s ∷ xs) (r ∙ ap (λ xs. xs ++ own n ss) none) ∙ ap (λ xs. xs ++ s ∷ own n ss) (sym none)))))
    | inr y ↦ (let l = y.1 in
        rw (le_false (suc s.table.0) (suc n) (omega (arith, l))) (rw x.0 (rw (differ s.table.0 n (λ e. omega (arith, l, e))) (parts n ss a.1))))
  ]
]

filter_both : (t : Stored → Bool) (xs ys : Tables) → filter t (xs ++ ys) ≡ filter t xs ++ filter t ys
filter_both t [] ys = refl
filter_both t (x ∷ xs) ys = elim (t x) as (λ b. cond b (x ∷ filter t (xs ++ ys)) (filter t (xs ++ ys)) ≡ cond b (x ∷ filter t xs) (filter t xs) ++ filter t ys) [ true ↦ ap (λ zs. x ∷ zs) (filter_both t xs ys) | false ↦ filter_both t xs ys ]

map_both : (xs ys : Tables) → map elem_of (xs ++ ys) ≡ map elem_of xs ++ map elem_of ys
map_both [] ys = refl
map_both (x ∷ xs) ys = ap (λ zs. elem_of x ∷ zs) (map_both xs ys)

-- the rows of one table are all kept, or none of them
one_table : (set : TableSet) (n : ℕ) (ss : Tables) → map elem_of (filter (λ s. bit_at set.0 s.table.0 == 1) (own n ss)) ≡ cond (bit_at set.0 n == 1) (map elem_of (own n ss)) []
one_table set n [] = elim (bit_at set.0 n == 1) as (λ b. map elem_of [] ≡ cond b (map elem_of []) []) [ true ↦ refl | false ↦ refl ]
one_table set n (s ∷ ss) = go (s.table.0 == n) refl (one_table set n ss)
  where
    kept : (b : Bool) → (bit_at set.0 s.table.0 == 1) ≡ b → (bit_at set.0 n == 1) ≡ b → map elem_of (filter (λ s. bit_at set.0 s.table.0 == 1) (own n ss)) ≡ cond (bit_at set.0 n == 1) (map elem_of (own n ss)) []
        → map elem_of (cond (bit_at set.0 s.table.0 == 1) (s ∷ filter (λ s. bit_at set.0 s.table.0 == 1) (own n ss)) (filter (λ s. bit_at set.0 s.table.0 == 1) (own n ss))) ≡ cond (bit_at set.0 n == 1) (elem_of s ∷ map elem_of (own n ss)) []
    kept true e f r = rw e (rw f (ap (λ es. elem_of s ∷ es) (r ∙ ap (λ b. cond b (map elem_of (own n ss)) []) f)))
    kept false e f r = rw e (rw f (r ∙ ap (λ b. cond b (map elem_of (own n ss)) []) f))

    go : (c : Bool) → (s.table.0 == n) ≡ c → map elem_of (filter (λ s. bit_at set.0 s.table.0 == 1) (own n ss)) ≡ cond (bit_at set.0 n == 1) (map elem_of (own n ss)) []
        → map elem_of (filter (λ s. bit_at set.0 s.table.0 == 1) (cond c (s ∷ own n ss) (own n ss))) ≡ cond (bit_at set.0 n == 1) (map elem_of (cond c (s ∷ own n ss) (own n ss))) []
    go true e r = kept (bit_at set.0 n == 1) (ap (λ t. bit_at set.0 t == 1) (eqb-true s.table.0 n e)) refl r
    go false e r = r

pub elements_more : (set : TableSet) (n : ℕ) (tables : Tables) (old new : List ElemId) → IsInOrder tables → old ≡ first_elements set n tables → new ≡ old ++ cond (bit_at set.0 n == 1) (map elem_of (held_in (record { 0 = n }) tables)) [] → new ≡ first_elements set (n + 1) tables
elements_more set n tables old new a h e =
    e ∙ (λ i. h i ++ sym (one_table set n tables) i) ∙ sym (map_both (filter (λ s. bit_at set.0 s.table.0 == 1) (below n tables)) (filter (λ s. bit_at set.0 s.table.0 == 1) (own n tables)))
    ∙ ap (map elem_of) (sym (filter_both (λ s. bit_at set.0 s.table.0 == 1) (below n tables) (own n tables)) ∙ ap (filter (λ s. bit_at set.0 s.table.0 == 1)) (sym (parts n tables a)))
    ∙ ap (λ m. first_elements set m tables) (let q : suc n ≡ n + 1 = omega arith in q)

pub no_elements : (set : TableSet) (tables : Tables) → [] ≡ first_elements set 0 tables
no_elements set tables = sym (ap (λ ss. map elem_of (filter (λ s. bit_at set.0 s.table.0 == 1) ss)) (none_below 0 tables (all tables)))
  where
    all : (ss : Tables) → Each (λ r. 0 ≤ r.table.0) ss
    all [] = tt
    all (s ∷ ss) = (omega arith, all ss)

kept_below : (set : TableSet) (n : ℕ) (ss : Tables) → set.0 < 2 ^ n → filter (λ s. bit_at set.0 s.table.0 == 1) (below n ss) ≡ filter (λ s. bit_at set.0 s.table.0 == 1) ss
kept_below set n [] l = refl
kept_below set n (s ∷ ss) l = elim (leb_tells (suc s.table.0) n) [
  | inl x ↦ rw x.0 (go (bit_at set.0 s.table.0 == 1) (kept_below set n ss l))
  | inr x ↦ (let m = x.1 in rw x.0 (rw (ap (λ b. b == 1) (bit_at_above set.0 n s.table.0 l (omega (arith, m)))) (kept_below set n ss l)))
]
  where
    go : (b : Bool) → filter (λ s. bit_at set.0 s.table.0 == 1) (below n ss) ≡ filter (λ s. bit_at set.0 s.table.0 == 1) ss
        → cond b (s ∷ filter (λ s. bit_at set.0 s.table.0 == 1) (below n ss)) (filter (λ s. bit_at set.0 s.table.0 == 1) (below n ss)) ≡ cond b (s ∷ filter (λ s. bit_at set.0 s.table.0 == 1) ss) (filter (λ s. bit_at set.0 s.table.0 == 1) ss)
    go true r = ap (λ xs. s ∷ xs) r
    go false r = r

pub all_elements : (set : TableSet) (n : ℕ) (tables : Tables) (out : List ElemId) → set.0 < 2 ^ 64 → 64 ≤ n → n ≤ 64 → out ≡ first_elements set n tables → out ≡ elements_of tables set
all_elements set n tables out l a b h =
    h ∙ ap (λ m. first_elements set m tables) (let e : n ≡ 64 = omega (arith, a, b) in e) ∙ ap (map elem_of) (kept_below set 64 tables l)

-- the rows of one table, one by one
abbrev pub elem_in : TableNo → Stored → ElemId
elem_in t s = record { table = t; key = s.key }

pub all_of_table : (t : TableNo) (tables : Tables) → map (elem_in t) (held_in t tables) ≡ map elem_of (held_in t tables)
all_of_table t [] = refl
all_of_table t (s ∷ ss) = go (s.table.0 == t.0) refl (all_of_table t ss)
  where
    go : (b : Bool) → (s.table.0 == t.0) ≡ b → map (elem_in t) (held_in t ss) ≡ map elem_of (held_in t ss) → map (elem_in t) (cond b (s ∷ held_in t ss) (held_in t ss)) ≡ map elem_of (cond b (s ∷ held_in t ss) (held_in t ss))
    go true e r = (λ i. record { table = record { 0 = sym (eqb-true s.table.0 t.0 e) i }; key = s.key } ∷ r i)
    go false e r = r
