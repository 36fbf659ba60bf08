-- What is said of a row by the newest of runs that name it, or else by the base, is the row of the tables under the runs.
use Rattle.std.proofs.Common.{ℕ, ◌≡◌, ◌≤◌, ◌+◌, List, [], ◌∷◌, ◌++◌, is_some, refl, ap, sym, subst, ◌∙◌, arith}
use Rattle.std.specs.declared.option.Option.{Option}
use Rattle.std.specs.declared.option.Option.TheVariants.{Some, None}
use Rattle.std.specs.Option.{option_map}
use Rattle.std.specs.List.{cons_option}
use Rattle.pg_keyed.specs.Lists.{Each, each_map, each_append}
use Rattle.pg_keyed.specs.Keyed.{over}
use Rattle.pg_value.specs.declared.value.Value.{Value}
use Rattle.pg_value.specs.declared.value.Dir.{Dir}
use Rattle.pg_value.specs.declared.row.Key.{Key}
use Rattle.pg_value.specs.declared.row.Row.{Row}
use Rattle.pg_value.specs.declared.shape.TableNo.{TableNo}
use Rattle.pg_value.specs.declared.shape.EdgeNo.{EdgeNo}
use Rattle.pg_value.specs.declared.shape.Shapes.{Shapes}
use Rattle.pg_value.specs.declared.write.Write.{Write}
use Rattle.pg_value.specs.Tables.{Stored, Tables, IsInOrder, FitTables, FitWrites, stored_at}
use Rattle.pg_value.specs.TablesLaws.{put_reads_at, put_in_order, put_fits}
use Rattle.pg_value.specs.Writes as writes
use Rattle.pg_value.specs.Writes.{write_at}
use Rattle.pg_value.specs.Log.{row_given, put}
use Rattle.pg_meaning.specs.Reads.{row_at}
use Rattle.pg_run.specs.Runs.{RunOf, said_at}
use Rattle.pg_meaning.specs.Sound.Graphs.{AreSoundShapes}
use Rattle.pg_snap.specs.Bases.{BaseOf}
use Rattle.pg_snap.specs.Snapshots.{SnapOf, parts, laid, tables_of, IsFor, AreFor, AreMade, Counts, Cover, IsSnapshot, later, said_in, or_stood}
use Rattle.pg_snap.specs.Costs.{run_cost, runs_cost, runs_search, runs_entries}

abbrev pub InOrder : List RunOf → Type 0
InOrder runs = Each (λ run. writes.IsInOrder run.writes) runs

given_row : (w : Write) → option_map (λ s. s.row) (row_given w) ≡ w.row
given_row w = go w.row
  where
    go : (r : Option Row) → option_map (λ (s : Stored). s.row) (option_map (λ q. record { table = w.table; key = w.key; row = q }) r) ≡ r
    go None = refl
    go (Some q) = refl

row_put : (t : TableNo) (key : Key) (tables : Tables) (ws : List Write) → IsInOrder tables → writes.IsInOrder ws → row_at (put tables ws) t key ≡ or_stood (option_map (λ w. w.row) (write_at (t.0, key.values) ws)) (row_at tables t key)
row_put t key tables ws a b = ap (option_map (λ s. s.row)) (put_reads_at (t.0, key.values) tables ws a b) ∙ go (write_at (t.0, key.values) ws)
  where
    go : (m : Option Write) → option_map (λ s. s.row) (over row_given m (stored_at (t.0, key.values) tables)) ≡ or_stood (option_map (λ w. w.row) m) (row_at tables t key)
    go None = refl
    go (Some w) = given_row w

pub laid_row : (t : TableNo) (key : Key) (tables : Tables) (runs : List RunOf) → IsInOrder tables → InOrder runs → row_at (laid tables runs) t key ≡ or_stood (said_in t key.values runs) (row_at tables t key)
laid_row t key tables [] a h = refl
laid_row t key tables (run ∷ runs) a h =
    laid_row t key (put tables run.writes) runs (put_in_order tables run.writes a) h.1 ∙ ap (or_stood (said_in t key.values runs)) (row_put t key tables run.writes a h.0) ∙ go (said_in t key.values runs)
  where
    go : (m : Option (Option Row)) → or_stood m (or_stood (said_at t key.values run) (row_at tables t key)) ≡ or_stood (later m (said_at t key.values run)) (row_at tables t key)
    go None = refl
    go (Some r) = refl

-- ONE LIST OF RUNS BEHIND ANOTHER

pub said_append : (t : TableNo) (k : List Value) (xs ys : List RunOf) → said_in t k (xs ++ ys) ≡ later (said_in t k ys) (said_in t k xs)
said_append t k [] ys = go (said_in t k ys)
  where
    go : (m : Option (Option Row)) → m ≡ later m None
    go None = refl
    go (Some r) = refl
said_append t k (x ∷ xs) ys = ap (λ m. later m (said_at t k x)) (said_append t k xs ys) ∙ go (said_in t k ys)
  where
    go : (m : Option (Option Row)) → later (later m (said_in t k xs)) (said_at t k x) ≡ later m (later (said_in t k xs) (said_at t k x))
    go None = refl
    go (Some r) = refl

pub cost_append : (t : TableNo) (xs ys : List RunOf) → runs_cost t (xs ++ ys) ≡ runs_cost t xs + runs_cost t ys
cost_append t [] ys = omega arith
cost_append t (x ∷ xs) ys = let r = cost_append t xs ys in omega (arith, r)

pub search_append : (e : EdgeNo) (xs ys : List RunOf) → runs_search e (xs ++ ys) ≡ runs_search e xs + runs_search e ys
search_append e [] ys = omega arith
search_append e (x ∷ xs) ys = let r = search_append e xs ys in omega (arith, r)

pub entries_append : (e : EdgeNo) (dir : Dir) (v : List Value) (xs ys : List RunOf) → runs_entries e dir v (xs ++ ys) ≡ runs_entries e dir v xs + runs_entries e dir v ys
entries_append e dir v [] ys = omega arith
entries_append e dir v (x ∷ xs) ys = let r = entries_append e dir v xs ys in omega (arith, r)

-- WHAT FITS

pub in_order_of : (shapes : Shapes) (runs : List RunOf) → AreFor shapes runs → InOrder runs
in_order_of shapes runs h = each_map (IsFor shapes) (λ run. writes.IsInOrder run.writes) (λ run f. f.in_order) runs h

pub laid_fits : (shapes : Shapes) (tables : Tables) (runs : List RunOf) → FitTables shapes tables → AreFor shapes runs → FitTables shapes (laid tables runs)
laid_fits shapes tables [] f h = f
laid_fits shapes tables (run ∷ runs) f h = laid_fits shapes (put tables run.writes) runs (put_fits shapes tables run.writes f h.0.fit) h.1

pub snapshot_row : (s : SnapOf) (t : TableNo) (key : Key) → IsSnapshot s → row_at (tables_of s) t key ≡ or_stood (said_in t key.values (parts s)) (row_at s.base.tables t key)
snapshot_row s t key h = laid_row t key s.base.tables (parts s) h.fit.in_order (in_order_of s.base.shapes (parts s) h.parts)

-- OWN WRITES BEHIND ALL RUNS

pub own_says : (s : SnapOf) (own : RunOf) (t : TableNo) (k : List Value) (r : Option Row) → s.own ≡ Some own → Some r ≡ said_at t k own → Some r ≡ said_in t k (parts s)
own_says s own t k r e h = sym (said_append t k s.runs (cons_option s.own []) ∙ ap (λ o. later (said_in t k (cons_option o [])) (said_in t k s.runs)) e ∙ ap (λ m. later m (said_in t k s.runs)) (sym h))

pub own_silent : (s : SnapOf) (own : RunOf) (t : TableNo) (k : List Value) (m : Option (Option Row)) → s.own ≡ Some own → None ≡ said_at t k own → m ≡ said_in t k s.runs → m ≡ said_in t k (parts s)
own_silent s own t k m e h n = n ∙ sym (said_append t k s.runs (cons_option s.own []) ∙ ap (λ o. later (said_in t k (cons_option o [])) (said_in t k s.runs)) e ∙ ap (λ q. later q (said_in t k s.runs)) (sym h))

pub no_own_said : (s : SnapOf) (t : TableNo) (k : List Value) (m : Option (Option Row)) → s.own ≡ None → m ≡ said_in t k s.runs → m ≡ said_in t k (parts s)
no_own_said s t k m e n = n ∙ sym (said_append t k s.runs (cons_option s.own []) ∙ ap (λ o. later (said_in t k (cons_option o [])) (said_in t k s.runs)) e)

pub own_cost : (s : SnapOf) (own : RunOf) (t : TableNo) → s.own ≡ Some own → runs_cost t (parts s) ≡ runs_cost t s.runs + run_cost t own
own_cost s own t e =
    let a = cost_append t s.runs (cons_option s.own []) in
    let b = ap (λ o. runs_cost t (cons_option o [])) e in
    omega (arith, a, b)

pub no_own_cost : (s : SnapOf) (t : TableNo) → s.own ≡ None → runs_cost t (parts s) ≡ runs_cost t s.runs
no_own_cost s t e =
    let a = cost_append t s.runs (cons_option s.own []) in
    let b = ap (λ o. runs_cost t (cons_option o [])) e in
    omega (arith, a, b)

-- WHAT A SNAPSHOT IS MADE OF

made_for : (shapes : Shapes) (run : RunOf) → run.shapes ≡ shapes → writes.IsInOrder run.writes → FitWrites run.shapes run.writes → IsFor shapes run
made_for shapes run e a f = record { made = e; in_order = a; fit = subst (λ s. FitWrites s run.writes) e f }

all_made : (shapes : Shapes) (runs : List RunOf) → Each (λ (run : RunOf). run.shapes ≡ shapes) runs → AreMade runs → AreFor shapes runs
all_made shapes [] e h = tt
all_made shapes (run ∷ runs) e h = (made_for shapes run e.0 h.0.0 h.0.1, all_made shapes runs e.1 h.1)

pub new_snapshot : (base : BaseOf) (runs : List RunOf) (at : ℕ) → AreSoundShapes base.shapes → FitTables base.shapes base.tables → AreMade runs → Each (λ (run : RunOf). run.shapes ≡ base.shapes) runs → Cover base.no runs at
    → IsSnapshot (record { base = base; runs = runs; own = None; at = at })
new_snapshot base runs at s f m e c = record { sound = s; fit = f; parts = each_append (IsFor base.shapes) runs [] (all_made base.shapes runs e m) tt; cover = c }

front_of : (P : RunOf → Type 0) (xs ys : List RunOf) → Each P (xs ++ ys) → Each P xs
front_of P [] ys h = tt
front_of P (x ∷ xs) ys h = (h.0, front_of P xs ys h.1)

pub own_snapshot : (s : SnapOf) (own : RunOf) → IsSnapshot s → own.shapes ≡ s.base.shapes → writes.IsInOrder own.writes → FitWrites own.shapes own.writes → IsSnapshot (record { base = s.base; runs = s.runs; own = Some own; at = s.at })
own_snapshot s own h e a f = record {
  sound = h.sound;
  fit = h.fit;
  parts = each_append (IsFor s.base.shapes) s.runs (own ∷ []) (front_of (IsFor s.base.shapes) s.runs (cons_option s.own []) h.parts) (made_for s.base.shapes own e a f, tt);
  cover = h.cover;
}

pub counts_of : (m : Option (Option Row)) (before after : ℕ) → before + 1 ≤ after → Counts m before after
counts_of None before after h = omega (arith, h)
counts_of (Some r) before after h = h

pub counts_more : (m : Option (Option Row)) (before between after : ℕ) → before ≤ between → Counts m between after → Counts m before after
counts_more None before between after l h = omega (arith, l, h)
counts_more (Some r) before between after l h = omega (arith, l, h)

pub back_of : (P : RunOf → Type 0) (xs ys : List RunOf) → Each P (xs ++ ys) → Each P ys
back_of P [] ys h = h
back_of P (x ∷ xs) ys h = back_of P xs ys h.1

row_stands : (tables : Tables) (t : TableNo) (key : Key) → is_some (stored_at (t.0, key.values) tables) ≡ is_some (row_at tables t key)
row_stands tables t key = go (stored_at (t.0, key.values) tables)
  where
    go : (m : Option Stored) → is_some m ≡ is_some (option_map (λ (s : Stored). s.row) m)
    go None = refl
    go (Some s) = refl

pub stands : (tables : Tables) (t : TableNo) (key : Key) (r : Option Row) → r ≡ row_at tables t key → is_some (stored_at (t.0, key.values) tables) ≡ is_some r
stands tables t key r h = row_stands tables t key ∙ ap is_some (sym h)
