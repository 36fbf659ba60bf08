-- Lists that hold each table's rows are, one after another, the tables.
use Rattle.std.proofs.Common.{ℕ, zero, suc, ◌≡◌, ◌+◌, ◌==◌, ◌<◌, ◌≤◌, Bool, true, false, cond, List, [], ◌∷◌, ◌++◌, get_or, refl, ap, sym, subst, ◌∙◌, ◌-◌, ◌⊎◌, inl, inr, arith}
use Rattle.std.specs.List.{filter}
use Rattle.std.specs.declared.cmp.Ordering.{Ordering}
use Rattle.std.specs.declared.cmp.Ordering.TheVariants.{Less, Equal, Greater}
use Rattle.std.specs.Ordering.{nat_cmp, ordering_then}
use Rattle.std.proofs.lemmas.Bool.{eqb-true, eq-eqb, leb-true, le-leb}
use Rattle.std.proofs.lemmas.Bool.Decides.{leb_tells}
use Rattle.std.proofs.Math.Dec.{leb}
use Rattle.std.specs.Cmp.{nat_cmp_is}
use Rattle.pg_keyed.specs.Keyed.{Above}
use Rattle.pg_keyed.specs.Lists.{Each, each_map}
use Rattle.pg_value.specs.declared.shape.Shapes.{Shapes}
use Rattle.pg_value.specs.Order.{Place, place_cmp}
use Rattle.pg_value.specs.Tables.{Stored, Tables, IsInOrder, held_in, place_of, FitTables}
use Rattle.pg_meaning.specs.Sound.Graphs.{AreSoundShapes}
use Rattle.pg_view.specs.Lists.{joined, rows_in, Hold, AreLists, ListsAreTables}

-- the rows of table n
abbrev own : ℕ → Tables → Tables
own n tables = filter (λ s. s.table.0 == n) tables

-- the rows of the tables from n on
abbrev from : ℕ → Tables → Tables
from n tables = filter (λ s. leb n s.table.0) tables

true_false : true ≡ false → ⊥
true_false h = cc

le_false : (a b : ℕ) → b < a → leb a b ≡ false
le_false a b l = go (leb a b) refl
  where
    go : (c : Bool) → leb a b ≡ c → leb a b ≡ false
    go true e = absurd (let h = leb-true a b e in omega arith)
    go false e = e

-- what stands behind a row is of its table or of a later one
not_below : (t u : ℕ) (r : Ordering) → ordering_then (nat_cmp t u) r ≡ Less → t ≤ u
not_below t u r h = go (nat_cmp t u) refl
  where
    less_is : (o : Ordering) → o ≡ Greater → ordering_then o r ≡ Less → ⊥
    less_is o e k = cc

    compared : (x y : ℕ) → (x < y) ⊎ ((x ≡ y) ⊎ (y < x))
    compared x y = elim (leb_tells (suc x) y) [ inl a ↦ inl a.1 | inr a ↦ elim (leb_tells (suc y) x) [ inl b ↦ inr (inr b.1) | inr b ↦ inr (inl (let p = a.1 in let q = b.1 in omega arith)) ] ]

    go : (o : Ordering) → nat_cmp t u ≡ o → t ≤ u
    go o e = elim (compared t u) [ inl l ↦ (omega arith) | inr q ↦ elim q [ inl s ↦ (omega arith) | inr g ↦ absurd (less_is (nat_cmp t u) (sym (nat_cmp_is t u Greater g)) h) ] ]

later : (s : Stored) (ss : Tables) → Above place_of place_cmp (place_of s) ss → Each (λ r. s.table.0 ≤ r.table.0) ss
later s ss a = each_map (λ r. place_cmp (place_of s) (place_of r) ≡ Less) (λ r. s.table.0 ≤ r.table.0) (λ r h. not_below s.table.0 r.table.0 _ h) ss a

none_own : (n : ℕ) (ss : Tables) → Each (λ r. n < r.table.0) ss → own n ss ≡ []
none_own n [] h = refl
none_own n (s ∷ ss) h = let e : (s.table.0 == n) ≡ false = differ (s.table.0 == n) refl in rw e (none_own n ss h.1)
  where
    differ : (b : Bool) → (s.table.0 == n) ≡ b → (s.table.0 == n) ≡ false
    differ true e = absurd (let q = eqb-true s.table.0 n e in let l = h.0 in omega arith)
    differ false e = e

parts : (n : ℕ) (ss : Tables) → IsInOrder ss → from n ss ≡ own n ss ++ from (n + 1) ss
parts n [] a = refl
parts n (s ∷ ss) a = go (s.table.0 == n) refl (parts n ss a.1)
  where
    above : (b : Bool) → leb (n + 1) s.table.0 ≡ b → (s.table.0 == n) ≡ false → from n ss ≡ own n ss ++ from (n + 1) ss
        → cond (leb n s.table.0) (s ∷ from n ss) (from n ss) ≡ own n ss ++ cond b (s ∷ from (n + 1) ss) (from (n + 1) ss)
    above true e d r =
        let l = leb-true (n + 1) s.table.0 e in
        let none = none_own n ss (each_map (λ x. s.table.0 ≤ x.table.0) (λ x. n < x.table.0) (λ x h. omega arith) ss (later s ss a.0)) in
        rw (le-leb n s.table.0 (omega arith)) (ap (λ xs. s ∷ xs) (r ∙ ap (λ xs. xs ++ from (n + 1) ss) none) ∙ ap (λ xs. xs ++ s ∷ from (n + 1) ss) (sym none))
    above false e d r = elim (leb_tells (n + 1) s.table.0) [
      | inl x ↦ absurd (true_false (sym x.0 ∙ e))
      | inr x ↦ elim (leb_tells n s.table.0) [
        | inl y ↦ absurd (let p = x.1 in let q = y.1 in true_false (sym (eq-eqb s.table.0 n (omega arith)) ∙ d))
        | inr y ↦ rw y.0 r
      ]
    ]

    go : (b : Bool) → (s.table.0 == n) ≡ b → from n ss ≡ own n ss ++ from (n + 1) ss → cond (leb n s.table.0) (s ∷ from n ss) (from n ss) ≡ cond b (s ∷ own n ss) (own n ss) ++ cond (leb (n + 1) s.table.0) (s ∷ from (n + 1) ss) (from (n + 1) ss)
    go true e r = let q = eqb-true s.table.0 n e in rw (le-leb n s.table.0 (omega arith)) (rw (le_false (n + 1) s.table.0 (omega arith)) (ap (λ xs. s ∷ xs) r))
    go false e r = above (leb (n + 1) s.table.0) refl e r

cons_nil : (x : Stored) (xs : Tables) → x ∷ xs ≡ [] → ⊥
cons_nil x xs e = cc

beyond : (n : ℕ) (ss : Tables) → ((t : ℕ) → own (n + t) ss ≡ []) → from n ss ≡ []
beyond n [] h = refl
beyond n (s ∷ ss) h = elim (leb_tells n s.table.0) [
  | inl x ↦ absurd (let l = x.1 in let k : (s.table.0 == n + (s.table.0 - n)) ≡ true = eq-eqb s.table.0 (n + (s.table.0 - n)) (omega arith) in cons_nil s (own (n + (s.table.0 - n)) ss) (sym (ap (λ b. cond b (s ∷ own (n + (s.table.0 - n)) ss) (own (n + (s.table.0 - n)) ss)) k) ∙ h (s.table.0 - n)))
  | inr x ↦ rw x.0 (beyond n ss (λ t. rest t (s.table.0 == n + t) refl (h t)))
]
  where
    rest : (t : ℕ) (b : Bool) → (s.table.0 == n + t) ≡ b → cond b (s ∷ own (n + t) ss) (own (n + t) ss) ≡ [] → own (n + t) ss ≡ []
    rest t true e k = absurd (cons_nil s (own (n + t) ss) k)
    rest t false e k = k

joined_from : (lists : List (List Stored)) (n : ℕ) (tables : Tables) → IsInOrder tables → ((t : ℕ) → own (n + t) tables ≡ get_or lists t []) → joined lists ≡ from n tables
joined_from [] n tables a h = sym (beyond n tables (λ t. h t))
joined_from (rows ∷ lists) n tables a h =
    let here : own n tables ≡ rows = ap (λ m. own m tables) (no_more n) ∙ h 0 in
    let there = joined_from lists (n + 1) tables a (λ t. ap (λ m. own m tables) (one_more n t) ∙ h (suc t)) in
    (λ i. sym here i ++ there i) ∙ sym (parts n tables a)
  where
    no_more : (m : ℕ) → m ≡ m + 0
    no_more m = omega arith

    one_more : (m t : ℕ) → m + 1 + t ≡ m + suc t
    one_more m t = omega arith

from_first : (ss : Tables) → from 0 ss ≡ ss
from_first [] = refl
from_first (s ∷ ss) = rw (le-leb 0 s.table.0 (omega arith)) (ap (λ xs. s ∷ xs) (from_first ss))

-- tables of which each holds the rows of the list at its number are the lists, one after another
pub joined_are : (lists : List (List Stored)) (tables : Tables) → IsInOrder tables → Hold lists tables → joined lists ≡ tables
joined_are lists tables a h = joined_from lists 0 tables a (λ t. zero_more t ∙ h (record { 0 = t })) ∙ from_first tables
  where
    zero_more : (t : ℕ) → own (0 + t) tables ≡ own t tables
    zero_more t = ap (λ m. own m tables) (omega arith)

-- such lists make a view
pub lists_of : (shapes : Shapes) (lists : List (List Stored)) (tables : Tables) → AreSoundShapes shapes → FitTables shapes tables → Hold lists tables → AreLists shapes lists
lists_of shapes lists tables s f h =
    let e = sym (joined_are lists tables f.in_order h) in
    record { sound = s; fit = subst (FitTables shapes) e f; hold = subst (Hold lists) e h }

pub lists_are_tables : ListsAreTables
lists_are_tables = record { tables = joined_are; view = lists_of }
