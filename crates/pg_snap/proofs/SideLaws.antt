-- The edges from a vertex under runs are those of the tables under the runs.
use Rattle.std.proofs.Common.{ℕ, ◌≡◌, ◌≤◌, ◌+◌, ◌*◌, List, [], ◌∷◌, ◌++◌, length, map, Bool, true, false, cond, refl, ap, sym, subst, ◌∙◌, arith}
use Rattle.std.specs.Prelude.{slice_get, not}
use Rattle.std.proofs.lemmas.Option.{none-some, same_Some}
use Rattle.std.proofs.lemmas.List.{length-map}
use Rattle.std.specs.declared.option.Option.{Option}
use Rattle.std.specs.declared.option.Option.TheVariants.{Some, None}
use Rattle.std.specs.Option.{option_map, unwrap_or}
use Rattle.std.specs.List.{filter_map, cons_option}
use Rattle.pg_keyed.specs.Keyed.{is_named}
use Rattle.pg_keyed.specs.Weaves.{weave_nothing}
use Rattle.pg_value.specs.declared.value.Value.{Value}
use Rattle.pg_value.specs.declared.value.Dir.{Dir}
use Rattle.pg_value.specs.declared.value.Dir.TheVariants.{Out, In}
use Rattle.pg_value.specs.declared.row.Key.{Key}
use Rattle.pg_value.specs.declared.shape.TableNo.{TableNo}
use Rattle.pg_value.specs.declared.shape.EdgeNo.{EdgeNo}
use Rattle.pg_value.specs.declared.shape.EdgeShape.{EdgeShape}
use Rattle.pg_value.specs.declared.shape.Shapes.{Shapes}
use Rattle.pg_value.specs.declared.write.Write.{Write}
use Rattle.pg_value.specs.Order.{key_cmp}
use Rattle.pg_value.specs.Orders.{keys}
use Rattle.pg_value.specs.Tables.{Stored, Tables, IsInOrder, held_in}
use Rattle.pg_value.specs.TablesLaws.{key_of, key_named, writes_to, held_ascends, writes_ascend, held_put_in, put_in_order}
use Rattle.pg_value.specs.Writes as writes
use Rattle.pg_value.specs.Log.{row_given, put}
use Rattle.pg_adj.specs.declared.ends.EdgeEnds.{EdgeEnds}
use Rattle.pg_adj.specs.Entries.{Entry, entry, is_at, entries_at}
use Rattle.pg_view.specs.RowEnds.{between, key_in, ends_in, all_ends}
use Rattle.pg_view.specs.Neighbours.{other_table}
use Rattle.pg_view.specs.Standing.{standing, standing_at}
use Rattle.pg_view.specs.Standing as view
use Rattle.pg_run.specs.Runs.{RunOf, ends_given, entries_in_run}
use Rattle.pg_snap.specs.Bases.{ends_held, entries_in_base}
use Rattle.pg_snap.specs.Snapshots.{SnapOf, parts, laid, tables_of, AreFor, IsSnapshot}
use Rattle.pg_snap.specs.Costs.{runs_cost, runs_search, runs_entries, entries, base_search, find_cost, group_cost}
use Rattle.pg_snap.specs.Under.{Side, side_of, sides_of, side_key, zipped, unnamed, woven, all_standing, under_run, under_runs, reached_in, HaveShape}
use Rattle.pg_snap.proofs.GivenLaws.{through, put_given, woven_put, given_twice, given_ascends, filter_short, weave_short}
use Rattle.std.proofs.Math.Nat.{mul-le-mul_right, mul-le-mul_left, mul-add}
use Rattle.pg_snap.proofs.RowLaws.{InOrder, in_order_of, search_append, cost_append, entries_append}

-- THE EDGES OF ROWS

abbrev pub at_side : Dir → List Value → Option EdgeEnds → Option Side
at_side dir v None = None
at_side dir v (Some e) = cond (is_at v (entry dir e)) (Some (side_of (entry dir e))) None

abbrev pub side_in : EdgeShape → Dir → List Value → Stored → Option Side
side_in shape dir v s = at_side dir v (ends_in shape s)

pub side_keyed : (shape : EdgeShape) (dir : Dir) (v : List Value) (s : Stored) (y : Side) → side_in shape dir v s ≡ Some y → side_key y ≡ key_of s
side_keyed shape dir v s y h = go (key_in shape.source_columns s.row.values) (key_in shape.dest_columns s.row.values) h
  where
    edge_is : (dir : Dir) (e : EdgeEnds) → (entry dir e).edge ≡ e.edge
    edge_is Out e = refl
    edge_is In e = refl

    tested : (b : Bool) (x : Side) → cond b (Some x) None ≡ Some y → x ≡ y
    tested true x e = same_Some x y e
    tested false x e = absurd (none-some y e)

    go : (a b : Option Key) → at_side dir v (between s.key a b) ≡ Some y → side_key y ≡ key_of s
    go None b e = absurd (none-some y e)
    go (Some a) None e = absurd (none-some y e)
    go (Some a) (Some b) e =
        let ends : EdgeEnds = record { edge = s.key; source = a; dest = b } in
        ap side_key (sym (tested (is_at v (entry dir ends)) (side_of (entry dir ends)) e)) ∙ ap (λ (k : Key). k.values) (edge_is dir ends)

sides_step : (dir : Dir) (v : List Value) (r : Option EdgeEnds) (ends : List EdgeEnds) → sides_of (entries_at dir v (cons_option r ends)) ≡ cons_option (at_side dir v r) (sides_of (entries_at dir v ends))
sides_step dir v None ends = refl
sides_step dir v (Some e) ends = elim (is_at v (entry dir e)) as (λ b. sides_of (cond b (entry dir e ∷ entries_at dir v ends) (entries_at dir v ends)) ≡ cons_option (cond b (Some (side_of (entry dir e))) None) (sides_of (entries_at dir v ends))) [ true ↦ refl | false ↦ refl ]

pub sides_are : (shape : EdgeShape) (dir : Dir) (v : List Value) (rows : List Stored) → sides_of (entries_at dir v (all_ends shape rows)) ≡ filter_map (side_in shape dir v) rows
sides_are shape dir v [] = refl
sides_are shape dir v (s ∷ rows) = sides_step dir v (ends_in shape s) (all_ends shape rows) ∙ ap (cons_option (side_in shape dir v s)) (sides_are shape dir v rows)

-- UNDER ONE RUN

given_key : (w : Write) (s : Stored) → row_given w ≡ Some s → key_of s ≡ key_named w
given_key w s h = go w.row h
  where
    go : (r : Option _) → option_map (λ q. record { table = w.table; key = w.key; row = q }) r ≡ Some s → key_of s ≡ key_named w
    go None e = absurd (none-some s e)
    go (Some r) e = ap key_of (sym (same_Some (record { table = w.table; key = w.key; row = r }) s e))

shape_ends : (f : EdgeShape → List EdgeEnds) (shapes : List EdgeShape) (n : ℕ) (shape : EdgeShape) → slice_get shapes n ≡ Some shape → unwrap_or (option_map f (slice_get shapes n)) [] ≡ f shape
shape_ends f shapes n shape e = ap (λ o. unwrap_or (option_map f o) []) e

pub under_is : (shape : EdgeShape) (e : EdgeNo) (dir : Dir) (v : List Value) (tables : Tables) (run : RunOf) → IsInOrder tables → writes.IsInOrder run.writes → slice_get run.shapes.edges e.0 ≡ Some shape
    → under_run e dir v shape.table (sides_of (entries_at dir v (ends_held tables shape))) run ≡ sides_of (entries_at dir v (ends_held (put tables run.writes) shape))
under_is shape e dir v tables run a b h =
    let ws = writes_to shape.table run.writes in
    let held = held_in shape.table tables in
    let f = side_in shape dir v in
    let olds : sides_of (entries_at dir v (ends_held tables shape)) ≡ filter_map f held = sides_are shape dir v held in
    let news : sides_of (entries_in_run run e dir v) ≡ filter_map (λ w. through f (row_given w)) ws =
    ap (λ es. sides_of (entries_at dir v es)) (shape_ends (λ s. ends_given s run.writes) run.shapes.edges e.0 shape h)
    ∙ sides_are shape dir v (filter_map row_given ws) ∙ given_twice row_given f ws in
    let ha = held_ascends shape.table tables a in
    let wa = writes_ascend shape.table run.writes b in
    (λ i. woven (unnamed ws (olds i)) (news i))
    ∙ woven_put key_of side_key key_named row_given key_cmp keys f given_key (side_keyed shape dir v) (filter_map f held) ws (given_ascends key_of side_key key_cmp keys f (side_keyed shape dir v) held ha) wa
    ∙ sym (put_given key_of side_key key_named row_given key_cmp keys f given_key (side_keyed shape dir v) held ws ha wa)
    ∙ ap (filter_map f) (sym (held_put_in shape.table tables run.writes a b))
    ∙ sym (sides_are shape dir v (held_in shape.table (put tables run.writes)))

under_all : (shape : EdgeShape) (e : EdgeNo) (dir : Dir) (v : List Value) (tables : Tables) (runs : List RunOf) → IsInOrder tables → InOrder runs → HaveShape e shape runs
    → under_runs e dir v shape.table (sides_of (entries_at dir v (ends_held tables shape))) runs ≡ sides_of (entries_at dir v (ends_held (laid tables runs) shape))
under_all shape e dir v tables [] a b h = refl
under_all shape e dir v tables (run ∷ runs) a b h =
    ap (λ sides. under_runs e dir v shape.table sides runs) (under_is shape e dir v tables run a b.0 h.0)
    ∙ under_all shape e dir v (put tables run.writes) runs (put_in_order tables run.writes a) b.1 h.1

pub have_shape : (shapes : Shapes) (e : EdgeNo) (shape : EdgeShape) (runs : List RunOf) → AreFor shapes runs → slice_get shapes.edges e.0 ≡ Some shape → HaveShape e shape runs
have_shape shapes e shape [] h g = tt
have_shape shapes e shape (run ∷ runs) h g = (ap (λ (s : Shapes). slice_get s.edges e.0) h.0.made ∙ g, have_shape shapes e shape runs h.1 g)

reached_is : (s : SnapOf) (e : EdgeNo) (shape : EdgeShape) (dir : Dir) (v : List Value) → IsSnapshot s → slice_get s.base.shapes.edges e.0 ≡ Some shape
    → reached_in s e shape dir v ≡ sides_of (entries_at dir v (ends_held (tables_of s) shape))
reached_is s e shape dir v h g =
    ap (λ es. under_runs e dir v shape.table (sides_of (entries_at dir v es)) (parts s)) (shape_ends (ends_held s.base.tables) s.base.shapes.edges e.0 shape g)
    ∙ under_all shape e dir v s.base.tables (parts s) h.fit.in_order (in_order_of s.base.shapes (parts s) h.parts) (have_shape s.base.shapes e shape (parts s) h.parts g)

zip_standing : (tables : Tables) (t u : TableNo) (es : List Entry) → view.all_standing tables t u (map (λ e. e.edge) es) (map (λ e. e.other) es) ≡ all_standing tables t u (sides_of es)
zip_standing tables t u [] = refl
zip_standing tables t u (e ∷ es) = ap (cons_option (standing tables t u e.edge e.other)) (zip_standing tables t u es)

pub standing_is : (s : SnapOf) (e : EdgeNo) (shape : EdgeShape) (dir : Dir) (key : Key) → IsSnapshot s → slice_get s.base.shapes.edges e.0 ≡ Some shape
    → all_standing (tables_of s) shape.table (other_table shape dir) (reached_in s e shape dir key.values) ≡ standing_at (tables_of s) shape dir key
standing_is s e shape dir key h g =
    ap (all_standing (tables_of s) shape.table (other_table shape dir)) (reached_is s e shape dir key.values h g)
    ∙ sym (zip_standing (tables_of s) shape.table (other_table shape dir) (entries_at dir key.values (ends_held (tables_of s) shape)))

-- GROUPS

pub zipped_is : (es : List Entry) → zipped (map (λ e. e.edge) es) (map (λ e. e.other) es) ≡ sides_of es
zipped_is [] = refl
zipped_is (e ∷ es) = ap (λ xs. side_of e ∷ xs) (zipped_is es)

-- NO WRITES

all_kept : (sides : List Side) → unnamed [] sides ≡ sides
all_kept [] = refl
all_kept (s ∷ sides) = ap (λ xs. s ∷ xs) (all_kept sides)

none_given : (shape : EdgeShape) (run : RunOf) (e : EdgeNo) (dir : Dir) (v : List Value) → slice_get run.shapes.edges e.0 ≡ Some shape → writes_to shape.table run.writes ≡ [] → entries_in_run run e dir v ≡ []
none_given shape run e dir v h n = ap (entries_at dir v) (shape_ends (λ s. ends_given s run.writes) run.shapes.edges e.0 shape h ∙ ap (λ ws. all_ends shape (filter_map row_given ws)) n)

pub under_nothing : (shape : EdgeShape) (run : RunOf) (e : EdgeNo) (dir : Dir) (v : List Value) (sides : List Side) → slice_get run.shapes.edges e.0 ≡ Some shape → writes_to shape.table run.writes ≡ [] → sides ≡ under_run e dir v shape.table sides run
under_nothing shape run e dir v sides h n =
    sym ((λ i. woven (unnamed (n i) sides) (sides_of (none_given shape run e dir v h n i))) ∙ weave_nothing side_key side_key (λ (s : Side). Some s) key_cmp keys (unnamed [] sides) ∙ all_kept sides)

-- COSTS

pub run_short : (e : EdgeNo) (dir : Dir) (v : List Value) (t : TableNo) (sides : List Side) (run : RunOf) → length (under_run e dir v t sides run) ≤ length sides + length (entries_in_run run e dir v)
run_short e dir v t sides run =
    let w = weave_short side_key side_key (λ (s : Side). Some s) key_cmp (unnamed (writes_to t run.writes) sides) (sides_of (entries_in_run run e dir v)) in
    let f = filter_short (λ s. not (is_named key_named key_cmp (side_key s) (writes_to t run.writes))) sides in
    let m = length-map (entries_in_run run e dir v) side_of in
    omega (arith, w, f, m)

pub runs_short : (e : EdgeNo) (dir : Dir) (v : List Value) (t : TableNo) (sides : List Side) (runs : List RunOf) → length (under_runs e dir v t sides runs) ≤ length sides + runs_entries e dir v runs
runs_short e dir v t sides [] = omega arith
runs_short e dir v t sides (run ∷ runs) = let a = run_short e dir v t sides run in let b = runs_short e dir v t (under_run e dir v t sides run) runs in omega (arith, a, b)

-- ALL PARTS

under_append : (e : EdgeNo) (dir : Dir) (v : List Value) (t : TableNo) (sides : List Side) (xs ys : List RunOf) → under_runs e dir v t sides (xs ++ ys) ≡ under_runs e dir v t (under_runs e dir v t sides xs) ys
under_append e dir v t sides [] ys = refl
under_append e dir v t sides (x ∷ xs) ys = under_append e dir v t (under_run e dir v t sides x) xs ys

pub reached_value : (s : SnapOf) (e : EdgeNo) (shape : EdgeShape) (dir : Dir) (v : List Value) (olds news all : List Side) → olds ≡ sides_of (entries_in_base s.base e dir v) → news ≡ under_runs e dir v shape.table olds s.runs
    → all ≡ under_runs e dir v shape.table news (cons_option s.own []) → all ≡ reached_in s e shape dir v
reached_value s e shape dir v olds news all a b c =
    c ∙ ap (λ xs. under_runs e dir v shape.table xs (cons_option s.own [])) (b ∙ ap (λ xs. under_runs e dir v shape.table xs s.runs) a)
    ∙ sym (under_append e dir v shape.table (sides_of (entries_in_base s.base e dir v)) s.runs (cons_option s.own []))

pub reached_short : (s : SnapOf) (e : EdgeNo) (shape : EdgeShape) (dir : Dir) (v : List Value) → length (reached_in s e shape dir v) ≤ entries s e dir v
reached_short s e shape dir v =
    let a = runs_short e dir v shape.table (sides_of (entries_in_base s.base e dir v)) (parts s) in
    let b = length-map (entries_in_base s.base e dir v) side_of in
    omega (arith, a, b)

pub news_short : (s : SnapOf) (e : EdgeNo) (shape : EdgeShape) (dir : Dir) (v : List Value) (olds news : List Side) → olds ≡ sides_of (entries_in_base s.base e dir v) → news ≡ under_runs e dir v shape.table olds s.runs
    → length news ≤ length (entries_in_base s.base e dir v) + runs_entries e dir v s.runs
news_short s e shape dir v olds news a b =
    let c = runs_short e dir v shape.table olds s.runs in
    let d = ap length b in
    let f = ap length a in
    let g = length-map (entries_in_base s.base e dir v) side_of in
    omega (arith, c, d, f, g)

-- what reading the base, the runs and the own writes takes together
pub reached_cost : (s : SnapOf) (e : EdgeNo) (shape : EdgeShape) (dir : Dir) (v : List Value) (n0 n1 s0 s1 s2 s3 : ℕ) → n0 ≡ length (entries_in_base s.base e dir v) → n1 ≤ length (entries_in_base s.base e dir v) + runs_entries e dir v s.runs
    → s1 ≤ s0 + base_search s.base e → s2 ≤ s1 + runs_search e s.runs + (n0 + runs_entries e dir v s.runs) * runs_cost shape.table s.runs
    → s3 ≤ s2 + runs_search e (cons_option s.own []) + n1 * runs_cost shape.table (cons_option s.own [])
    → s3 ≤ s0 + (base_search s.base e + runs_search e (parts s)) + entries s e dir v * runs_cost shape.table (parts s)
reached_cost s e shape dir v n0 n1 s0 s1 s2 s3 p q a b c =
    let f = search_append e s.runs (cons_option s.own []) in
    let g = cost_append shape.table s.runs (cons_option s.own []) in
    let h = entries_append e dir v s.runs (cons_option s.own []) in
    subst (λ r. s3 ≤ s0 + (base_search s.base e + runs_search e (parts s)) + entries s e dir v * r) (sym g)
    (sum n0 n1 s0 s1 s2 s3 (base_search s.base e) (runs_search e s.runs) (runs_search e (cons_option s.own [])) (runs_search e (parts s)) (runs_cost shape.table s.runs) (runs_cost shape.table (cons_option s.own [])) (runs_entries e dir v s.runs) (entries s e dir v)
    (omega (arith, p, h)) (omega (arith, q, h)) f a b c)
  where
    sum : (n0 n1 s0 s1 s2 s3 bs rs os ps rc oc m n : ℕ) → n0 + m ≤ n → n1 ≤ n → ps ≡ rs + os → s1 ≤ s0 + bs → s2 ≤ s1 + rs + (n0 + m) * rc → s3 ≤ s2 + os + n1 * oc → s3 ≤ s0 + (bs + ps) + n * (rc + oc)
    sum n0 n1 s0 s1 s2 s3 bs rs os ps rc oc m n x y f a b c =
        let total : n * (rc + oc) ≡ n * rc + n * oc = mul-add n rc oc in
        let k : (n0 + m) * rc ≤ n * rc = mul-le-mul_right rc x in
        let l : n1 * oc ≤ n * oc = mul-le-mul_right oc y in
        omega (arith, f, a, b, c, total, k, l)

-- and with the vertices at the other ends
pub found_cost : (s : SnapOf) (e : EdgeNo) (shape : EdgeShape) (dir : Dir) (key : Key) (n s0 s1 s2 : ℕ) → n ≤ entries s e dir key.values
    → s1 ≤ s0 + (base_search s.base e + runs_search e (parts s)) + entries s e dir key.values * runs_cost shape.table (parts s)
    → s2 ≤ s1 + n * (1 + find_cost s (other_table shape dir)) → s2 ≤ s0 + group_cost s e dir key shape
found_cost s e shape dir key n s0 s1 s2 l a b =
    sum n (entries s e dir key.values) s0 s1 s2 (base_search s.base e + runs_search e (parts s)) (runs_cost shape.table (parts s)) (find_cost s shape.table) (find_cost s (other_table shape dir)) l (omega arith) a b
  where
    sum : (n m s0 s1 s2 q r f o : ℕ) → n ≤ m → r ≤ f → s1 ≤ s0 + q + m * r → s2 ≤ s1 + n * (1 + o) → s2 ≤ s0 + (q + m * (1 + f + o))
    sum n m s0 s1 s2 q r f o l d a b =
        let x : n * (1 + o) ≤ m * (1 + o) = mul-le-mul_right (1 + o) l in
        let y : m * r ≤ m * f = mul-le-mul_left m d in
        let w : m * (1 + f + o) ≡ m * (1 + f) + m * o = mul-add m (1 + f) o in
        let z : m * (1 + f) ≡ m * 1 + m * f = mul-add m 1 f in
        let t : m * (1 + o) ≡ m * 1 + m * o = mul-add m 1 o in
        omega (arith, a, b, x, y, w, z, t)
