-- Rows that writes name are taken out: what is left is the rows with those writes put on them.
use Rattle.std.proofs.Common.{◌≡◌, ℕ, zero, suc, ◌+◌, ◌<◌, arith, Bool, true, false, cond, List, [], ◌∷◌, ◌++◌, length, get_or, take, drop, refl, ap, sym, subst, ◌∙◌, inl, inr}
use Rattle.std.specs.Prelude.{not, ◌||◌, is_some, is_ok, slice_get, filter_map, filter, Result, Ok, Err, Option, Some, None}
use Rattle.std.specs.Option.{IsSome, IsNone, option_map}
use Rattle.std.specs.List.{cons_option}
use Rattle.std.specs.Ordering.{is_eq, is_lt, is_gt}
use Rattle.std.specs.declared.cmp.Ordering.TheVariants.{Less}
use Rattle.std.proofs.lemmas.List.{take_more, take-append-drop}
use Rattle.std.proofs.lemmas.Option.{none-some, same_Some}
use Rattle.pg_keyed.specs.Keyed.{Ascends, Each, Sought, get, add_all, merge, is_named}
use Rattle.pg_keyed.specs.Lists.{each_map}
use Rattle.pg_keyed.specs.Puts.{named_is}
use Rattle.pg_value.specs.declared.row.Row.{Row}
use Rattle.pg_value.specs.declared.shape.TableNo.{TableNo}
use Rattle.pg_value.specs.declared.write.Write.{Write}
use Rattle.pg_value.specs.Order.{Place, place_cmp, key_cmp}
use Rattle.pg_value.specs.Orders.{keys}
use Rattle.pg_value.specs.Tables.{Stored}
use Rattle.pg_value.specs.Log.{row_given}
use Rattle.pg_value.specs.Writes.{named, write_at}
use Rattle.pg_value.specs.TablesLaws.{key_of, key_named, put_in, write_at_in}
use Rattle.pgq.specs.Commits.{IsTo, IsGone, HasRow, AreAlike}
use Rattle.pgq.proofs.Commits.StillReady.{all_to}
use Rattle.std.proofs.Common.{eq-eqb}

-- ONE ROW BEHIND OTHERS

abbrev RowsAscend : List Stored → Type 0
RowsAscend xs = Ascends key_of key_cmp xs

each_parts : {X : Type 0} (P : X → Type 0) (xs ys : List X) → Each P (xs ++ ys) → Each P xs × Each P ys
each_parts P [] ys h = (tt, h)
each_parts P (x ∷ xs) ys h = let r = each_parts P xs ys h.1 in ((h.0, r.0), r.1)

each_join : {X : Type 0} (P : X → Type 0) (xs ys : List X) → Each P xs → Each P ys → Each P (xs ++ ys)
each_join P [] ys h k = k
each_join P (x ∷ xs) ys h k = (h.0, each_join P xs ys h.1 k)

-- each of the rows in front stands before the last
all_before : (xs : List Stored) (x : Stored) → RowsAscend (xs ++ x ∷ []) → Each (λ y. key_cmp (key_of y) (key_of x) ≡ Less) xs
all_before [] x h = tt
all_before (y ∷ xs) x h = ((each_parts (λ z. key_cmp (key_of y) (key_of z) ≡ Less) xs (x ∷ []) h.0).1.0, all_before xs x h.1)

filter_yes : {X : Type 0} (p : X → Bool) (xs : List X) → Each (λ x. p x ≡ true) xs → filter p xs ≡ xs
filter_yes p [] h = refl
filter_yes p (x ∷ xs) h = ap (λ b. cond b (x ∷ filter p xs) (filter p xs)) h.0 ∙ ap (λ l. x ∷ l) (filter_yes p xs h.1)

filter_no : {X : Type 0} (p : X → Bool) (xs : List X) → Each (λ x. p x ≡ false) xs → filter p xs ≡ []
filter_no p [] h = refl
filter_no p (x ∷ xs) h = ap (λ b. cond b (x ∷ filter p xs) (filter p xs)) h.0 ∙ filter_no p xs h.1

-- a row behind all others is added at the end
pub behind_all : (xs : List Stored) (x : Stored) → RowsAscend (xs ++ x ∷ []) → merge key_of key_cmp xs (x ∷ []) ≡ xs ++ x ∷ []
behind_all xs x h =
    let before = all_before xs x h in
    let kept : filter (λ y. not (is_named key_of key_cmp (key_of y) (x ∷ []))) xs ≡ xs =
    filter_yes (λ y. not (is_named key_of key_cmp (key_of y) (x ∷ []))) xs (each_map (λ y. key_cmp (key_of y) (key_of x) ≡ Less) (λ y. not (is_named key_of key_cmp (key_of y) (x ∷ [])) ≡ true) (λ y l. ap (λ r. not (is_eq r || false)) l) xs before) in
    let front : filter (λ y. is_lt (key_cmp (key_of y) (key_of x))) xs ≡ xs =
    filter_yes (λ y. is_lt (key_cmp (key_of y) (key_of x))) xs (each_map (λ y. key_cmp (key_of y) (key_of x) ≡ Less) (λ y. is_lt (key_cmp (key_of y) (key_of x)) ≡ true) (λ y l. ap is_lt l) xs before) in
    let back : filter (λ y. is_gt (key_cmp (key_of y) (key_of x))) xs ≡ [] =
    filter_no (λ y. is_gt (key_cmp (key_of y) (key_of x))) xs (each_map (λ y. key_cmp (key_of y) (key_of x) ≡ Less) (λ y. is_gt (key_cmp (key_of y) (key_of x)) ≡ false) (λ y l. ap is_gt l) xs before) in
    ap (λ l. add_all key_of key_cmp l (x ∷ [])) kept ∙ (λ i. front i ++ x ∷ back i)

-- THE ROWS THAT ARE KEPT

-- no write names the row's place
abbrev pub is_left : TableNo → List Write → Stored → Bool
is_left table ws s = not (is_some (write_at (table.0, key_of s) ws))

pub left_before : (table : TableNo) (ws : List Write) (xs : List Stored) (x : Stored) → RowsAscend (xs ++ x ∷ []) → RowsAscend (filter (is_left table ws) xs ++ x ∷ [])
left_before table ws [] x h = h
left_before table ws (y ∷ xs) x h = go (is_left table ws y) (left_before table ws xs x h.1)
  where
    above : (zs : List Stored) → Each (λ z. key_cmp (key_of y) (key_of z) ≡ Less) zs → Each (λ z. key_cmp (key_of y) (key_of z) ≡ Less) (filter (is_left table ws) zs)
    above [] k = tt
    above (z ∷ zs) k = elim (is_left table ws z) as (λ b. Each (λ z. key_cmp (key_of y) (key_of z) ≡ Less) (cond b (z ∷ filter (is_left table ws) zs) (filter (is_left table ws) zs))) [ true ↦ (k.0, above zs k.1) | false ↦ above zs k.1 ]

    parts : Each (λ z. key_cmp (key_of y) (key_of z) ≡ Less) xs × Each (λ z. key_cmp (key_of y) (key_of z) ≡ Less) (x ∷ [])
    parts = each_parts (λ z. key_cmp (key_of y) (key_of z) ≡ Less) xs (x ∷ []) h.0

    go : (b : Bool) → RowsAscend (filter (is_left table ws) xs ++ x ∷ []) → RowsAscend (cond b (y ∷ filter (is_left table ws) xs) (filter (is_left table ws) xs) ++ x ∷ [])
    go true r = (each_join (λ z. key_cmp (key_of y) (key_of z) ≡ Less) (filter (is_left table ws) xs) (x ∷ []) (above xs parts.0) parts.1, r)
    go false r = r

front_ascends : (xs ys : List Stored) → RowsAscend (xs ++ ys) → RowsAscend xs
front_ascends [] ys h = tt
front_ascends (x ∷ xs) ys h = ((each_parts (λ z. key_cmp (key_of x) (key_of z) ≡ Less) xs ys h.0).0, front_ascends xs ys h.1)

-- those among the first rows, with the next row behind them
pub next_ascends : (table : TableNo) (ws : List Write) (xs : List Stored) (at : ℕ) (x : Stored) → RowsAscend xs → at < length xs → x ≡ get_or xs at x → RowsAscend (filter (is_left table ws) (take at xs) ++ x ∷ [])
next_ascends table ws xs at x h l e =
    left_before table ws (take at xs) x
    (subst RowsAscend (take_more xs at x l ∙ ap (λ y. take at xs ++ y ∷ []) (sym e))
    (front_ascends (take (at + 1) xs) (drop (at + 1) xs) (subst RowsAscend (sym (take-append-drop (at + 1) xs)) h)))

filter_more : {X : Type 0} (p : X → Bool) (xs : List X) (x : X) → filter p (xs ++ x ∷ []) ≡ cond (p x) (filter p xs ++ x ∷ []) (filter p xs)
filter_more p [] x = refl
filter_more p (y ∷ xs) x = elim (p y) as (λ b. cond b (y ∷ filter p (xs ++ x ∷ [])) (filter p (xs ++ x ∷ [])) ≡ cond (p x) (cond b (y ∷ filter p xs) (filter p xs) ++ x ∷ []) (cond b (y ∷ filter p xs) (filter p xs))) [
  | true ↦ ap (λ l. y ∷ l) (filter_more p xs x) ∙ inside (p x)
  | false ↦ filter_more p xs x
]
  where
    inside : (b : Bool) → y ∷ cond b (filter p xs ++ x ∷ []) (filter p xs) ≡ cond b (y ∷ (filter p xs ++ x ∷ [])) (y ∷ filter p xs)
    inside true = refl
    inside false = refl

-- one row more
pub one_kept : (table : TableNo) (ws : List Write) (xs kept kept' : List Stored) (at : ℕ) (x : Stored) → at < length xs → x ≡ get_or xs at x → kept ≡ filter (is_left table ws) (take at xs)
    → kept' ≡ cond (is_some (write_at (table.0, key_of x) ws)) kept (kept ++ x ∷ []) → kept' ≡ filter (is_left table ws) (take (at + 1) xs)
one_kept table ws xs kept kept' at x l e h k =
    k ∙ ap (λ (l : List Stored). cond (is_some (write_at (table.0, key_of x) ws)) l (l ++ x ∷ [])) h ∙ turned (is_some (write_at (table.0, key_of x) ws))
    ∙ sym (filter_more (is_left table ws) (take at xs) x)
    ∙ ap (filter (is_left table ws)) (sym (take_more xs at x l ∙ ap (λ y. take at xs ++ y ∷ []) (sym e)))
  where
    turned : (b : Bool) → cond b (filter (is_left table ws) (take at xs)) (filter (is_left table ws) (take at xs) ++ x ∷ []) ≡ cond (not b) (filter (is_left table ws) (take at xs) ++ x ∷ []) (filter (is_left table ws) (take at xs))
    turned true = refl
    turned false = refl

-- ALL ROWS

abbrev stored : Write → Row → Stored
stored w r = record { table = w.table; key = w.key; row = r }

nothing_given : (ws : List Write) → Each IsGone ws → filter_map row_given ws ≡ []
nothing_given [] h = refl
nothing_given (w ∷ ws) h = ap (λ o. cons_option o (filter_map row_given ws)) (gone w.row h.0) ∙ nothing_given ws h.1
  where
    gone : (o : Option Row) → IsNone o → option_map (stored w) o ≡ None
    gone None k = refl
    gone (Some r) k = absurd cc

same_test : (table : TableNo) (ws : List Write) (s : Stored) → Each (IsTo table) ws → not (is_named key_named key_cmp (key_of s) ws) ≡ is_left table ws s
same_test table ws s own =
    ap (λ b. not b) (named_is key_of key_named row_given key_cmp keys (key_of s) ws
    ∙ ap is_some (ap (get key_named key_cmp (key_of s)) (sym (all_to table table.0 ws (eq-eqb table.0 table.0 refl) own)) ∙ write_at_in table (key_of s) ws))

-- what is left is the rows with the writes put on them
pub left_is : (table : TableNo) (ws : List Write) (xs : List Stored) → Each (IsTo table) ws → Each IsGone ws → filter (is_left table ws) xs ≡ put_in xs ws
left_is table ws xs own gone =
    sym (ap (add_all key_of key_cmp (filter (λ x. not (is_named key_named key_cmp (key_of x) ws)) xs)) (nothing_given ws gone)
    ∙ ap (λ p. filter p xs) (λ i s. same_test table ws s own i))

-- WHETHER WRITES ARE GONE

-- where writes are alike, the first tells of all
pub all_gone : (ws : List Write) (w : Write) → AreAlike ws → slice_get ws 0 ≡ Some w → IsGone w → Each IsGone ws
all_gone ws w (inr g) e h = g
all_gone [] w (inl r) e h = tt
all_gone (x ∷ ws) w (inl r) e h = absurd (both w h (subst HasRow (same_Some x w e) r.0))
  where
    both : (v : Write) → IsGone v → HasRow v → ⊥
    both v g r = go v.row g r where
      go : (o : Option Row) → IsNone o → IsSome o → ⊥
      go None g r = cc
      go (Some x) g r = cc

pub all_rows : (ws : List Write) (w : Write) → AreAlike ws → slice_get ws 0 ≡ Some w → HasRow w → Each HasRow ws
all_rows ws w (inl r) e h = r
all_rows [] w (inr g) e h = tt
all_rows (x ∷ ws) w (inr g) e h = absurd (both w (subst IsGone (same_Some x w e) g.0) h)
  where
    both : (v : Write) → IsGone v → HasRow v → ⊥
    both v g r = go v.row g r where
      go : (o : Option Row) → IsNone o → IsSome o → ⊥
      go None g r = cc
      go (Some x) g r = cc

pub no_writes : (ws : List Write) → slice_get ws 0 ≡ None → Each IsGone ws
no_writes [] h = tt
no_writes (w ∷ ws) h = absurd (none-some w (sym h))

-- WHAT IS SOUGHT

found_some : {X : Type 0} (xs : List X) (i : ℕ) → i < length xs → is_some (slice_get xs i) ≡ true
found_some [] i h = absurd (omega arith)
found_some (x ∷ xs) zero h = refl
found_some (x ∷ xs) (suc i) h = found_some xs i (omega arith)

-- a place is found exactly where a write names it
pub sought_named : (p : Place) (ws : List Write) (r : Result ℕ ℕ) → Sought named place_cmp p ws r → is_ok r ≡ is_some (write_at p ws)
sought_named p ws (Ok i) h = sym (ap is_some h.2 ∙ found_some ws i h.1)
sought_named p ws (Err i) h = sym (ap is_some h.2)
