-- A walk over rows and the writes to their table gives the rows of the table under the writes, one by one.
use Rattle.std.proofs.Common.{ℕ, zero, suc, ◌≡◌, ◌+◌, List, [], ◌∷◌, ◌++◌, drop, true, false, cond, refl, ap, sym, subst, ◌∙◌, add-one}
use Rattle.std.specs.Prelude.{slice_get}
use Rattle.std.proofs.lemmas.Option.{none-some, same_Some}
use Rattle.std.specs.declared.option.Option.TheVariants.{Some, None}
use Rattle.std.specs.declared.cmp.Ordering.{Ordering}
use Rattle.std.specs.declared.cmp.Ordering.TheVariants.{Less, Equal, Greater}
use Rattle.std.specs.Ordering.{is_eq, is_lt}
use Rattle.std.specs.List.{cons_option}
use Rattle.pg_keyed.specs.Weaves.{weave_nothing}
use Rattle.pg_keyed.specs.Puts.{put_weave, put_put, put_nothing, merge_ascends, own_fits}
use Rattle.pg_value.specs.declared.shape.TableNo.{TableNo}
use Rattle.pg_value.specs.declared.write.Write.{Write}
use Rattle.pg_value.specs.Order.{key_cmp}
use Rattle.pg_value.specs.Orders.{keys}
use Rattle.pg_value.specs.Tables.{Stored, Tables, IsInOrder, held_in}
use Rattle.pg_value.specs.TablesLaws.{key_of, key_named, writes_to, put_in, held_ascends, writes_ascend, held_put_in, put_in_order, key_fits}
use Rattle.pg_keyed.specs.Keyed.{Ascends, merge}
use Rattle.pg_value.specs.Log.{row_given, put}
use Rattle.pg_run.specs.Runs.{RunOf}
use Rattle.pg_snap.specs.Snapshots.{laid}
use Rattle.pg_snap.specs.Scans.{both, changes_on, under, stands_before, without}
use Rattle.pg_snap.proofs.RowLaws.{InOrder}

-- ROWS AT A PLACE

drop_next : {X : Type 0} (xs : List X) (at : ℕ) (x : X) → slice_get xs at ≡ Some x → drop at xs ≡ x ∷ drop (suc at) xs
drop_next [] at x h = absurd (none-some x h)
drop_next (y ∷ ys) zero x h = ap (λ z. z ∷ ys) (same_Some y x h)
drop_next (y ∷ ys) (suc at) x h = drop_next ys at x h

pub drop_at : {X : Type 0} (xs : List X) (at : ℕ) (x : X) → slice_get xs at ≡ Some x → drop at xs ≡ x ∷ drop (at + 1) xs
drop_at xs at x h = rw add-one (drop_next xs at x h)

pub drop_end : {X : Type 0} (xs : List X) (at : ℕ) → slice_get xs at ≡ None → drop at xs ≡ []
drop_end [] zero h = refl
drop_end [] (suc at) h = refl
drop_end (y ∷ ys) zero h = absurd (none-some y (sym h))
drop_end (y ∷ ys) (suc at) h = drop_end ys at h

-- ONE STEP

-- the first row stands before the key of the next change
pub row_first : (rows rest : List Stored) (s : Stored) (w : Write) (ws : List Write) → rows ≡ s ∷ rest → stands_before w.key.values rows ≡ true → under rows (w ∷ ws) ≡ s ∷ under rest (w ∷ ws)
row_first rows rest s w ws e h = ap (λ rs. under rs (w ∷ ws)) e ∙ go (key_cmp (key_of s) (key_named w)) (sym (ap (stands_before w.key.values) e) ∙ h)
  where
    go : (r : Ordering) → is_lt r ≡ true → elim r [ Less ↦ s ∷ under rest (w ∷ ws) | Equal ↦ cons_option (row_given w) (under rest ws) | Greater ↦ cons_option (row_given w) (under (s ∷ rest) ws) ] ≡ s ∷ under rest (w ∷ ws)
    go Less h = refl
    go Equal h = cc
    go Greater h = cc

-- it does not
pub change_first : (rows : List Stored) (w : Write) (ws : List Write) → stands_before w.key.values rows ≡ false → under rows (w ∷ ws) ≡ cons_option (row_given w) (under (without w.key.values rows) ws)
change_first [] w ws h = refl
change_first (s ∷ rows) w ws h = go (key_cmp (key_of s) (key_named w)) h
  where
    go : (r : Ordering) → is_lt r ≡ false → elim r [ Less ↦ s ∷ under rows (w ∷ ws) | Equal ↦ cons_option (row_given w) (under rows ws) | Greater ↦ cons_option (row_given w) (under (s ∷ rows) ws) ] ≡ cons_option (row_given w) (under (cond (is_eq r) rows (s ∷ rows)) ws)
    go Less h = cc
    go Equal h = refl
    go Greater h = refl

pub none_behind : (rows : List Stored) → under rows [] ≡ rows
none_behind rows = weave_nothing key_of key_named row_given key_cmp keys rows

-- THE WRITES OF RUNS TO A TABLE

both_is : (a b : List Write) → Ascends key_named key_cmp a → Ascends key_named key_cmp b → merge key_named key_cmp a b ≡ both a b
both_is a b h k = put_weave key_named key_named (λ (w : Write). Some w) key_cmp keys a b (own_fits key_named key_cmp keys b) h k

both_ascend : (a b : List Write) → Ascends key_named key_cmp a → Ascends key_named key_cmp b → Ascends key_named key_cmp (both a b)
both_ascend a b h k = subst (Ascends key_named key_cmp) (both_is a b h k) (merge_ascends key_named key_cmp keys a b h k)

changes_are : (t : TableNo) (tables : Tables) (ws : List Write) (runs : List RunOf) → IsInOrder tables → Ascends key_named key_cmp ws → InOrder runs
    → (held : List Stored) → Ascends key_of key_cmp held → held_in t tables ≡ put_in held ws → under held (changes_on t ws runs) ≡ held_in t (laid tables runs)
changes_are t tables ws [] a b h held k e = sym (put_weave key_of key_named row_given key_cmp keys held ws (key_fits ws) k b) ∙ sym e
changes_are t tables ws (run ∷ runs) a b h held k e =
    let vs = writes_to t run.writes in
    let c = writes_ascend t run.writes h.0 in
    changes_are t (put tables run.writes) (both ws vs) runs (put_in_order tables run.writes a) (both_ascend ws vs b c) h.1 held k
    (held_put_in t tables run.writes a h.0 ∙ ap (λ xs. put_in xs vs) e ∙ put_put key_of key_named row_given key_cmp keys held ws vs (key_fits ws) (key_fits vs) k b c ∙ ap (put_in held) (both_is ws vs b c))

pub scanned : (t : TableNo) (tables : Tables) (runs : List RunOf) → IsInOrder tables → InOrder runs → under (held_in t tables) (changes_on t [] runs) ≡ held_in t (laid tables runs)
scanned t tables runs a h = changes_are t tables [] runs a tt h (held_in t tables) (held_ascends t tables a) (sym (put_nothing key_of key_named row_given key_cmp keys (held_in t tables)))

pub changes_append : (t : TableNo) (ws : List Write) (xs ys : List RunOf) → changes_on t ws (xs ++ ys) ≡ changes_on t (changes_on t ws xs) ys
changes_append t ws [] ys = refl
changes_append t ws (x ∷ xs) ys = changes_append t (both ws (writes_to t x.writes)) xs ys

pub both_nothing : (ws vs : List Write) → vs ≡ [] → ws ≡ both ws vs
both_nothing ws vs e = sym (ap (both ws) e ∙ weave_nothing key_named key_named (λ (w : Write). Some w) key_cmp keys ws)
