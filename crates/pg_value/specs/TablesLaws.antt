-- The laws of tables under writes: what is read at a place, what one table holds, that order and fitting are kept.
use Rattle.std.proofs.Common.{ℕ, ◌≡◌, List, [], ◌∷◌, true, false, cond, refl, ap, sym, subst, ◌∙◌, take}
use Rattle.std.specs.Prelude.{◌==◌, map, IfSome}
use Rattle.std.proofs.lemmas.Option.{same_Some, none-some}
use Rattle.std.specs.declared.option.Option.{Option}
use Rattle.std.specs.declared.option.Option.TheVariants.{Some, None}
use Rattle.std.specs.Option.{option_map}
use Rattle.std.specs.Ordering.{is_eq, nat_cmp, ordering_then}
use Rattle.std.specs.List.{filter}
use Rattle.std.proofs.lemmas.Bool.{eqb-true, eq-eqb}
use Rattle.std.proofs.lemmas.Cmp.{tied_itself}
use Rattle.std.specs.Cmp.{nat_cmp_total}
use Rattle.pg_keyed.specs.Lists.{Each, Distinct, each_kept, each_map, each_take, distinct_map}
use Rattle.pg_keyed.specs.Keyed as keyed
use Rattle.pg_keyed.specs.Keyed.{Ascends, Above, Fits, over}
use Rattle.pg_keyed.specs.Reads.{alike, filter_ascends, get_filter, keys_distinct}
use Rattle.pg_keyed.specs.Puts.{put_rises, put_reads, put_each, put_nothing, put_filter, put_put}
use Rattle.pg_value.specs.declared.value.Value.{Value}
use Rattle.pg_value.specs.declared.row.Row.{Row}
use Rattle.pg_value.specs.declared.shape.TableNo.{TableNo}
use Rattle.pg_value.specs.declared.shape.Shapes.{Shapes}
use Rattle.pg_value.specs.declared.write.Write.{Write}
use Rattle.pg_value.specs.declared.write.Commit.{Commit}
use Rattle.pg_value.specs.Order.{Place, place_cmp, key_cmp}
use Rattle.pg_value.specs.Orders.{places, keys}
use Rattle.pg_value.specs.Tables.{Stored, Tables, place_of, IsInOrder, held_in, stored_at, FitsWrite, FitsStored, FitsBoth, FitTables, FitWrites}
use Rattle.pg_value.specs.Writes as writes
use Rattle.pg_value.specs.Writes.{named, write_at, merge}
use Rattle.pg_value.specs.Log.{row_given, put, puts, after}
use Rattle.pg_value.specs.Graph.{elem_of, elem_place}

-- WHAT A WRITE GIVES

abbrev stored_as : Write → Row → Stored
stored_as w r = record { table = w.table; key = w.key; row = r }

-- the row that a write gives stands at the place that it names
given_place : (w : Write) (s : Stored) → row_given w ≡ Some s → place_of s ≡ named w
given_place w s h = go w.row h
  where
    go : (r : Option Row) → option_map (stored_as w) r ≡ Some s → place_of s ≡ named w
    go None e = absurd (none-some s e)
    go (Some r) e = ap place_of (sym (same_Some (stored_as w r) s e))

given_key : (w : Write) (s : Stored) → row_given w ≡ Some s → s.key.values ≡ w.key.values
given_key w s h = ap (λ (p : Place). p.1) (given_place w s h)

pub given_fits : (ws : List Write) → Fits place_of named row_given place_cmp ws
given_fits [] = tt
given_fits (w ∷ ws) = (given_place w, given_fits ws)

-- READING AND ORDER

-- a place reads its own write's row, or else what stood there
pub put_reads_at : (p : Place) (tables : Tables) (ws : List Write) → IsInOrder tables → writes.IsInOrder ws → stored_at p (put tables ws) ≡ over row_given (write_at p ws) (stored_at p tables)
put_reads_at p tables ws a b = put_reads place_of named row_given place_cmp places p tables ws (given_fits ws) a b

pub put_in_order : (tables : Tables) (ws : List Write) → IsInOrder tables → IsInOrder (put tables ws)
put_in_order tables ws a = put_rises place_of named row_given place_cmp places tables ws a

pub puts_in_order : (tables : Tables) (log : List Commit) → IsInOrder tables → IsInOrder (puts tables log)
puts_in_order tables [] a = a
puts_in_order tables (c ∷ log) a = puts_in_order (put tables c.writes.list) log (put_in_order tables c.writes.list a)

pub after_in_order : (log : List Commit) (k : ℕ) → IsInOrder (after log k)
after_in_order log k = puts_in_order [] (take k log) tt

-- writes put after writes are their merge
pub put_after_put : (tables : Tables) (a b : List Write) → IsInOrder tables → writes.IsInOrder a → writes.IsInOrder b → put (put tables a) b ≡ put tables (merge a b)
put_after_put tables a b h k l = put_put place_of named row_given place_cmp places tables a b (given_fits a) (given_fits b) h k l

-- WHAT FITS

given_stored : (shapes : Shapes) (w : Write) (s : Stored) → FitsWrite shapes w → row_given w ≡ Some s → FitsStored shapes s
given_stored shapes w s f h = go w.row h f.3
  where
    go : (r : Option Row) → option_map (stored_as w) r ≡ Some s → IfSome r (FitsBoth f.0 w.key) → FitsStored shapes s
    go None e g = absurd (none-some s e)
    go (Some r) e g = subst (FitsStored shapes) (same_Some (stored_as w r) s e) (f.0, f.1, f.2, g)

given_each : (shapes : Shapes) (ws : List Write) → FitWrites shapes ws → Each (λ w. (s : Stored) → row_given w ≡ Some s → FitsStored shapes s) ws
given_each shapes ws f = each_map (FitsWrite shapes) (λ w. (s : Stored) → row_given w ≡ Some s → FitsStored shapes s) (λ w g s h. given_stored shapes w s g h) ws f

pub put_fits : (shapes : Shapes) (tables : Tables) (ws : List Write) → FitTables shapes tables → FitWrites shapes ws → FitTables shapes (put tables ws)
put_fits shapes tables ws f g = record { in_order = put_in_order tables ws f.in_order; each = put_each place_of named row_given place_cmp places (FitsStored shapes) tables ws f.each (given_each shapes ws g) }

-- each commit's writes fit
abbrev pub FitLog : Shapes → List Commit → Type 0
FitLog shapes log = Each (λ c. FitWrites shapes c.writes.list) log

pub puts_fit : (shapes : Shapes) (tables : Tables) (log : List Commit) → FitTables shapes tables → FitLog shapes log → FitTables shapes (puts tables log)
puts_fit shapes tables [] f g = f
puts_fit shapes tables (c ∷ log) f g = puts_fit shapes (put tables c.writes.list) log (put_fits shapes tables c.writes.list f g.0) g.1

pub after_fits : (shapes : Shapes) (log : List Commit) (k : ℕ) → FitLog shapes log → FitTables shapes (after log k)
after_fits shapes log k g = puts_fit shapes [] (take k log) (record { in_order = tt; each = tt }) (each_take (λ c. FitWrites shapes c.writes.list) k log g)

-- ONE TABLE

-- items of one table, in order of table and key, are in order of the key
module _ {X : Type 0} (table : X → ℕ) (key : X → List Value) where
  abbrev place : X → Place
  place x = (table x, key x)

  abbrev of : ℕ → List X → List X
  of t xs = filter (λ x. table x == t) xs

  same_table : (s t : ℕ) → (s == t) ≡ true → s ≡ t
  same_table s t h = eqb-true s t h

  one_cmp : (t : ℕ) (k : List Value) (x : X) → table x ≡ t → place_cmp (t, k) (place x) ≡ key_cmp k (key x)
  one_cmp t k x e = ap (λ s. ordering_then (nat_cmp t s) (key_cmp k (key x))) e ∙ ap (λ r. ordering_then r (key_cmp k (key x))) (tied_itself nat_cmp_total t)

  all_of : (t : ℕ) (xs : List X) → Each (λ x. table x ≡ t) (of t xs)
  all_of t xs = each_map (λ x. (table x == t) ≡ true) (λ x. table x ≡ t) (λ x h. same_table (table x) t h) (of t xs) (each_kept (λ x. table x == t) xs)

  keys_ascend : (t : ℕ) (xs : List X) → Each (λ x. table x ≡ t) xs → Ascends place place_cmp xs → Ascends key key_cmp xs
  keys_ascend t [] e a = tt
  keys_ascend t (x ∷ xs) e a = (above xs e.1 a.0, keys_ascend t xs e.1 a.1)
    where
      above : (ys : List X) → Each (λ y. table y ≡ t) ys → Above place place_cmp (place x) ys → Above key key_cmp (key x) ys
      above [] f b = tt
      above (y ∷ ys) f b = (sym (ap (λ s. place_cmp (s, key x) (place y)) e.0 ∙ one_cmp t (key x) y f.0) ∙ b.0, above ys f.1 b.1)

  get_one : (t : ℕ) (k : List Value) (xs : List X) → Each (λ x. table x ≡ t) xs → keyed.get key key_cmp k xs ≡ keyed.get place place_cmp (t, k) xs
  get_one t k [] e = refl
  get_one t k (x ∷ xs) e = let r = get_one t k xs e.1 in let c = ap is_eq (sym (one_cmp t k x e.0)) in λ i. cond (c i) (Some x) (r i)

abbrev pub key_of : Stored → List Value
key_of s = s.key.values

abbrev pub key_named : Write → List Value
key_named w = w.key.values

-- the writes to a table
abbrev pub writes_to : TableNo → List Write → List Write
writes_to t ws = filter (λ w. w.table.0 == t.0) ws

-- writes to one table put on what it holds, by their keys
abbrev pub put_in : List Stored → List Write → List Stored
put_in held ws = keyed.put key_of key_named row_given key_cmp held ws

abbrev pub stored_in : List Value → List Stored → Option Stored
stored_in k held = keyed.get key_of key_cmp k held

-- a table in order of its keys
pub held_ascends : (t : TableNo) (tables : Tables) → IsInOrder tables → Ascends key_of key_cmp (held_in t tables)
held_ascends t tables a = keys_ascend (λ (s : Stored). s.table.0) key_of t.0 (held_in t tables) (all_of (λ (s : Stored). s.table.0) key_of t.0 tables) (filter_ascends place_of place_cmp places (λ s. s.table.0 == t.0) tables a)

pub writes_ascend : (t : TableNo) (ws : List Write) → writes.IsInOrder ws → Ascends key_named key_cmp (writes_to t ws)
writes_ascend t ws a = keys_ascend (λ (w : Write). w.table.0) key_named t.0 (writes_to t ws) (all_of (λ (w : Write). w.table.0) key_named t.0 ws) (filter_ascends named place_cmp places (λ w. w.table.0 == t.0) ws a)

-- a place reads what its table holds of the key
pub stored_at_in : (t : TableNo) (k : List Value) (tables : Tables) → stored_in k (held_in t tables) ≡ stored_at (t.0, k) tables
stored_at_in t k tables =
    get_one (λ (s : Stored). s.table.0) key_of t.0 k (held_in t tables) (all_of (λ (s : Stored). s.table.0) key_of t.0 tables)
    ∙ get_filter place_of place_cmp places (λ (p : Place). p.0 == t.0) (t.0, k) tables
    ∙ ap (λ b. cond b (stored_at (t.0, k) tables) None) (eq-eqb t.0 t.0 refl)

pub write_at_in : (t : TableNo) (k : List Value) (ws : List Write) → keyed.get key_named key_cmp k (writes_to t ws) ≡ write_at (t.0, k) ws
write_at_in t k ws =
    get_one (λ (w : Write). w.table.0) key_named t.0 k (writes_to t ws) (all_of (λ (w : Write). w.table.0) key_named t.0 ws)
    ∙ get_filter named place_cmp places (λ (p : Place). p.0 == t.0) (t.0, k) ws
    ∙ ap (λ b. cond b (write_at (t.0, k) ws) None) (eq-eqb t.0 t.0 refl)

pub key_fits : (ws : List Write) → Fits key_of key_named row_given key_cmp ws
key_fits [] = tt
key_fits (w ∷ ws) = (given_key w, key_fits ws)

-- what a table holds after writes: those to it, put on what it held
pub held_put : (t : TableNo) (tables : Tables) (ws : List Write) → IsInOrder tables → writes.IsInOrder ws → held_in t (put tables ws) ≡ put (held_in t tables) (writes_to t ws)
held_put t tables ws a b = put_filter place_of named row_given place_cmp places (λ (p : Place). p.0 == t.0) tables ws (given_fits ws) a b

-- and so by the keys alone
pub held_put_in : (t : TableNo) (tables : Tables) (ws : List Write) → IsInOrder tables → writes.IsInOrder ws → held_in t (put tables ws) ≡ put_in (held_in t tables) (writes_to t ws)
held_put_in t tables ws a b =
    let h = held_ascends t tables a in
    let w = writes_ascend t ws b in
    let f = key_fits (writes_to t ws) in
    alike key_of key_cmp keys _ _ (held_ascends t (put tables ws) (put_in_order tables ws a)) (put_rises key_of key_named row_given key_cmp keys (held_in t tables) (writes_to t ws) h)
    (λ k. stored_at_in t k (put tables ws) ∙ put_reads_at (t.0, k) tables ws a b
    ∙ sym (put_reads key_of key_named row_given key_cmp keys k (held_in t tables) (writes_to t ws) f h w
    ∙ (λ i. over row_given (write_at_in t k ws i) (stored_at_in t k tables i))))

-- a write to another table changes nothing here
pub held_other : (t : TableNo) (tables : Tables) (w : Write) → IsInOrder tables → (w.table.0 == t.0) ≡ false → held_in t (put tables (w ∷ [])) ≡ held_in t tables
held_other t tables w a n =
    held_put_in t tables (w ∷ []) a (tt, tt)
    ∙ ap (λ b. put_in (held_in t tables) (cond b (w ∷ []) [])) n
    ∙ put_nothing key_of key_named row_given key_cmp keys (held_in t tables)

-- and one to this table is put on what it held
pub held_own : (t : TableNo) (tables : Tables) (w : Write) → IsInOrder tables → (w.table.0 == t.0) ≡ true → held_in t (put tables (w ∷ [])) ≡ put_in (held_in t tables) (w ∷ [])
held_own t tables w a n = held_put_in t tables (w ∷ []) a (tt, tt) ∙ ap (λ b. put_in (held_in t tables) (cond b (w ∷ []) [])) n

-- ELEMENTS

-- no element is there twice
pub elems_distinct : (tables : Tables) → IsInOrder tables → Distinct (map elem_of tables)
elems_distinct tables a = distinct_map elem_of elem_place tables (keys_distinct place_of place_cmp places tables a)

pub held_in_order : (t : TableNo) (tables : Tables) → IsInOrder tables → IsInOrder (held_in t tables)
held_in_order t tables a = filter_ascends place_of place_cmp places (λ s. s.table.0 == t.0) tables a

pub held_distinct : (t : TableNo) (tables : Tables) → IsInOrder tables → Distinct (map elem_of (held_in t tables))
held_distinct t tables a = elems_distinct (held_in t tables) (held_in_order t tables a)
