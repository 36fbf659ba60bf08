-- What runs the statements is still ready after a commit of writes to one table.
use Rattle.std.proofs.Common.{◌≡◌, ℕ, ◌+◌, ◌-◌, ◌≤◌, ◌<◌, List, [], ◌∷◌, Bool, true, false, cond, length, get_or, refl, ap, sym, subst, ◌∙◌, arith, eq-eqb, length-append, length-set}
use Rattle.std.specs.Prelude.{◌==◌, slice_set, nat_lt}
use Rattle.std.proofs.lemmas.Bool.{eqb-true, eqb-false}
use Rattle.std.proofs.lemmas.List.{get_or-set_same, get_or-set_other}
use Rattle.pg_keyed.specs.Keyed.{Ascends, Each}
use Rattle.pg_keyed.specs.Lists.{each_map, each_kept}
use Rattle.pg_keyed.specs.Puts.{put_nothing}
use Rattle.pg_value.specs.declared.shape.TableNo.{TableNo}
use Rattle.pg_value.specs.declared.write.Write.{Write}
use Rattle.pg_value.specs.declared.write.Commit.{Commit}
use Rattle.pg_value.specs.Order.{key_cmp}
use Rattle.pg_value.specs.Orders.{keys}
use Rattle.pg_value.specs.Tables.{Stored, Tables, held_in}
use Rattle.pg_value.specs.Writes.{IsInOrder}
use Rattle.pg_value.specs.Log.{after, held, put, row_given}
use Rattle.pg_value.specs.TablesLaws.{key_of, key_named, put_in, writes_to, held_put_in, held_ascends, writes_ascend, after_in_order}
use Rattle.pg_rules.specs.Catalog.Shapes.{shapes}
use Rattle.pgq.specs.declared.engine.Engine.{Engine}
use Rattle.pg_core.specs.Core.{base_after}
use Rattle.pg_keyed.specs.Lists.{each_append}
use Rattle.pg_value.specs.Tables.{FitWrites}
use Rattle.pg_value.specs.TablesLaws.{FitLog}
use Rattle.pg_meaning.specs.Sound.Graphs.{AreSoundShapes}
use Rattle.pgq.specs.Engine.{IsReady, most_log_writes, peak_after}
use Rattle.pgq.specs.Commits.{IsTo, IsAppended}
use Rattle.pgq.proofs.Commits.LongerLog.{after_more, held_more}

-- THE BASE AND THE PEAK

base_low : (base found : ℕ) → base ≤ found → base_after base found ≤ found
base_low base found l = elim (found - base == 256) as (λ b. cond b found base ≤ found) [ true ↦ omega arith | false ↦ l ]

base_high : (base found : ℕ) → base ≤ found → found ≤ base + 256 → found + 1 ≤ base_after base found + 256
base_high base found l h = go (found - base == 256) refl
  where
    go : (b : Bool) → (found - base == 256) ≡ b → found + 1 ≤ cond b found base + 256
    go true q = omega arith
    go false q = let d = eqb-false (found - base) 256 q in omega (arith, d)

peak_some : (base found : ℕ) (peak : ℕ × ℕ) → 1 ≤ peak.0 → 1 ≤ (peak_after base found peak).0
peak_some base found peak l = go (found - base == 256) (nat_lt peak.0 2)
  where
    go : (a b : Bool) → 1 ≤ (cond a (cond b (2, 1) peak) peak).0
    go true true = omega arith
    go true false = l
    go false b = l

-- THE TABLES

-- writes to one table are all of the writes to it, and none to another
pub all_to : (table : TableNo) (t : ℕ) (ws : List Write) → (table.0 == t) ≡ true → Each (IsTo table) ws → writes_to (record { 0 = t }) ws ≡ ws
all_to table t [] q h = refl
all_to table t (w ∷ ws) q h = rw (ap (λ (k : TableNo). k.0 == t) h.0 ∙ q) (ap (λ vs. w ∷ vs) (all_to table t ws q h.1))

none_to : (table : TableNo) (t : ℕ) (ws : List Write) → (table.0 == t) ≡ false → Each (IsTo table) ws → writes_to (record { 0 = t }) ws ≡ []
none_to table t [] q h = refl
none_to table t (w ∷ ws) q h = rw (ap (λ (k : TableNo). k.0 == t) h.0 ∙ q) (none_to table t ws q h.1)

-- the lists of all tables, with the writes put into one of them
abbrev with_writes : List (List Stored) → TableNo → List Write → List (List Stored)
with_writes lists table ws = slice_set lists table.0 (put_in (get_or lists table.0 []) ws)

held_then : (tables : Tables) (lists : List (List Stored)) (table : TableNo) (t : ℕ) (ws : List Write) → held_in (record { 0 = t }) tables ≡ get_or lists t [] → table.0 < length lists → Each (IsTo table) ws
    → put_in (held_in (record { 0 = t }) tables) (writes_to (record { 0 = t }) ws) ≡ get_or (with_writes lists table ws) t []
held_then tables lists table t ws h l r = go (table.0 == t) refl
  where
    go : (b : Bool) → (table.0 == t) ≡ b → put_in (held_in (record { 0 = t }) tables) (writes_to (record { 0 = t }) ws) ≡ get_or (with_writes lists table ws) t []
    go true q =
        let e : table.0 ≡ t = eqb-true table.0 t q in
        ap (put_in (held_in (record { 0 = t }) tables)) (all_to table t ws q r)
        ∙ ap (λ xs. put_in xs ws) (h ∙ ap (λ k. get_or lists k []) (sym e))
        ∙ sym (get_or-set_same lists table.0 (put_in (get_or lists table.0 []) ws) [] l)
        ∙ ap (λ k. get_or (with_writes lists table ws) k []) e
    go false q =
        ap (put_in (held_in (record { 0 = t }) tables)) (none_to table t ws q r)
        ∙ put_nothing key_of key_named row_given key_cmp keys (held_in (record { 0 = t }) tables)
        ∙ h
        ∙ sym (get_or-set_other lists table.0 t (put_in (get_or lists table.0 []) ws) [] (λ e. eqb-false table.0 t q (sym e)))

-- THE WHOLE

module _ (table : TableNo) (c : Commit) (e e' : Engine) (r : IsReady e) (a : IsAppended c e e') where
  abbrev ws : List Write
  ws = c.writes.list

  tables_then : after e'.log (length e'.log) ≡ put (after e.log (length e.log)) ws
  tables_then = ap (λ log. after log (length log)) a.log ∙ after_more e.log c

  longer : length e'.log ≡ length e.log + 1
  longer = ap length a.log ∙ length-append e.log (c ∷ [])

  pub still_ready : table.0 < length e.tables.items → Each (IsTo table) ws → IsInOrder ws → held e.log + length ws ≤ most_log_writes
      → e'.tables.items ≡ slice_set e.tables.items table.0 (put_in (get_or e.tables.items table.0 []) ws) → FitWrites e.shapes ws → IsReady e'
  still_ready within rows in_order room lists fits = record {
    each = λ t.
        ap (held_in (record { 0 = t })) tables_then
        ∙ held_put_in (record { 0 = t }) (after e.log (length e.log)) ws (after_in_order e.log (length e.log)) in_order
        ∙ held_then (after e.log (length e.log)) e.tables.items table t ws (r.each t) within rows
        ∙ ap (λ xs. get_or xs t []) (sym lists);
    as_many = ap length lists ∙ length-set e.tables.items table.0 _ ∙ r.as_many ∙ sym (ap (λ d. length d.0) a.catalog);
    shapes_are = a.shapes ∙ r.shapes_are ∙ sym (ap shapes a.catalog);
    sound_shapes = subst AreSoundShapes (sym a.shapes) r.sound_shapes;
    fit = subst (λ s. FitLog s e'.log) (sym a.shapes) (subst (FitLog e.shapes) (sym a.log) (each_append (λ x. FitWrites e.shapes x.writes.list) e.log (c ∷ []) r.fit (fits, tt)));
    held_all = a.held ∙ ap (λ h. h + length ws) r.held_all ∙ sym (ap held a.log ∙ held_more e.log c);
    room = let h : held e'.log ≡ held e.log + length ws = ap held a.log ∙ held_more e.log c in omega (arith, h, room);
    low = let l = base_low e.base (length e.log) r.low in let m = longer in let b = a.base in omega (arith, l, m, b);
    high = let l = base_high e.base (length e.log) r.low r.high in let m = longer in let b = a.base in omega (arith, l, m, b);
    peak = subst (λ (p : ℕ × ℕ). 1 ≤ p.0) (sym a.peak) (peak_some e.base (length e.log) e.peak r.peak);
  }

-- WHAT THE ROWS ARE PUT AMONG, AND IN WHICH ORDER

pub list_ascends : (e : Engine) (t : ℕ) → IsReady e → Ascends key_of key_cmp (get_or e.tables.items t [])
list_ascends e t r = subst (Ascends key_of key_cmp) (r.each t) (held_ascends (record { 0 = t }) (after e.log (length e.log)) (after_in_order e.log (length e.log)))

pub writes_ascend_by_key : (table : TableNo) (ws : List Write) → Each (IsTo table) ws → IsInOrder ws → Ascends key_named key_cmp ws
writes_ascend_by_key table ws r o = subst (Ascends key_named key_cmp) (all_to table table.0 ws (eq-eqb table.0 table.0 refl) r) (writes_ascend table ws o)

-- each row in a table's list is of that table
pub of_table : (e : Engine) (table : TableNo) → IsReady e → Each (λ (s : Stored). s.table ≡ table) (get_or e.tables.items table.0 [])
of_table e table r = subst (Each (λ (s : Stored). s.table ≡ table)) (r.each table.0)
    (each_map (λ (s : Stored). (s.table.0 == table.0) ≡ true) (λ s. s.table ≡ table) (λ s h i. record { 0 = eqb-true s.table.0 table.0 h i }) (held_in table (after e.log (length e.log)))
    (each_kept (λ (s : Stored). s.table.0 == table.0) (after e.log (length e.log))))
