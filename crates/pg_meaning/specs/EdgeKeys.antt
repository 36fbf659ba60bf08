-- The edges of a graph over tables in order are distinct, and their ends are vertices.
use Rattle.std.proofs.Common.{◌≡◌, ◌==◌, ℕ, Bool, true, false, cond, not, ◌&&◌, List, [], ◌∷◌, ◌++◌, map, Contains, refl, ap, sym, ◌∙◌, subst, inl, inr, eqb-true}
use Rattle.std.specs.Prelude.{Option, Some, None, flat_map, filter_map, option_map, unwrap_or, slice_get}
use Rattle.std.specs.List.{list_any, list_all, cons_option}
use Rattle.std.specs.declared.cmp.Ordering.TheVariants.{Less, Equal}
use Rattle.pg_keyed.specs.Keyed.{Above}
use Rattle.pg_keyed.specs.Orders.{same, is_equal}
use Rattle.pg_value.specs.declared.row.Row.{Row}
use Rattle.pg_value.specs.declared.shape.ElemId.{ElemId}
use Rattle.pg_value.specs.declared.shape.TableNo.{TableNo}
use Rattle.pg_value.specs.declared.shape.EdgeNo.{EdgeNo}
use Rattle.pg_value.specs.declared.shape.EdgeShape.{EdgeShape}
use Rattle.pg_value.specs.declared.shape.Shapes.{Shapes}
use Rattle.pg_value.specs.declared.shape.GraphShape.{GraphShape}
use Rattle.pg_value.specs.Order.{Place, place_cmp}
use Rattle.pg_value.specs.Orders.{places}
use Rattle.pg_value.specs.Compare.{is_null}
use Rattle.pg_value.specs.Tables.{Stored, Tables, IsInOrder, held_in, place_of, pick}
use Rattle.pg_value.specs.Graph.{Edge, vertices, edges, edges_in, edge_of, edge_between, end_of, elem_of, elem_place, same_elem}
use Rattle.pg_meaning.specs.Bindings.{Distinct}
use Rattle.pg_meaning.specs.HopQuery.{table_of, edge_tables}
use Rattle.pg_meaning.specs.Members.{in_nil, in_cons, from_map, from_flat_map, from_filter_map, in_filter_map, in_filter, from_any, distinct_append, distinct_under, distinct_filter, distinct_given}

-- NAMES

pub same_table : (a b : TableNo) → a.0 ≡ b.0 → a ≡ b
same_table a b h = λ i. record { 0 = h i }

pub same_place : (a b : ElemId) → elem_place a ≡ elem_place b → a ≡ b
same_place a b h = λ i. record { table = record { 0 = (h i).0 }; key = record { values = (h i).1 } }

pub same_is : (a b : ElemId) → same_elem a b ≡ true → a ≡ b
same_is a b h = same_place a b (places.exact (elem_place a) (elem_place b) (is_equal _ h))

-- TABLES IN ORDER NAME NO PLACE TWICE

not_above : (p : Place) (tables : Tables) → Above place_of place_cmp p tables → Contains (map place_of tables) p → ⊥
not_above p [] h c = in_nil p c
not_above p (s ∷ tables) h c = elim (in_cons (place_of s) (map place_of tables) p c) [
  | inl e ↦ less_or_equal (sym h.0 ∙ ap (place_cmp p) e ∙ same places p)
  | inr r ↦ not_above p tables h.1 r
]
  where
    less_or_equal : Less ≡ Equal → ⊥
    less_or_equal e = cc

pub distinct_places : (tables : Tables) → IsInOrder tables → Distinct (map place_of tables)
distinct_places [] h = tt
distinct_places (s ∷ tables) h = (not_above (place_of s) tables h.0, distinct_places tables h.1)

-- VERTICES

some_is : {X : Type 0} (x y : X) → Some x ≡ Some y → x ≡ y
some_is x y h = cc

none_is : {X : Type 0} (x : X) → None ≡ Some x → ⊥
none_is x h = cc

-- a vertex stands in a vertex table
pub vertex_table : (g : GraphShape) (tables : Tables) (v : ElemId) → Contains (vertices g tables) v → Contains g.vertices v.table
vertex_table g tables v c =
    let a = from_flat_map (λ t. map elem_of (held_in t tables)) g.vertices v c in
    let b = from_map elem_of (held_in a.0 tables) v a.2 in
    let d = in_filter (λ s. s.table.0 == a.0.0) tables b.0 b.1 in
    let e : a.0 ≡ v.table = same_table a.0 v.table (sym (eqb-true b.0.table.0 a.0.0 d.1) ∙ ap (λ z. z.table.0) b.2) in
    subst (λ t. Contains g.vertices t) e a.1

found_end : (vs : List ElemId) (v w : ElemId) (b c : Bool) → c ≡ list_any (same_elem v) vs → cond (b && c) (Some v) None ≡ Some w → Contains vs w
found_end vs v w true true h e =
    let a = from_any (same_elem v) vs (sym h) in
    subst (λ z. Contains vs z) (sym (same_is v a.0 a.2) ∙ some_is v w e) a.1
found_end vs v w true false h e = absurd (none_is w e)
found_end vs v w false c h e = absurd (none_is w e)

-- the end of an edge is a vertex
end_stands : (vs : List ElemId) (t : TableNo) (columns : List ℕ) (r : Row) (w : ElemId) → end_of vs t columns r ≡ Some w → Contains vs w
end_stands vs t columns r w h =
    found_end vs (record { table = t; key = record { values = pick columns r.values } }) w
    (list_all (λ v. not (is_null v)) (pick columns r.values)) (list_any (same_elem (record { table = t; key = record { values = pick columns r.values } })) vs) refl h

between_is : (vs : List ElemId) (a b : Option ElemId) (x : ElemId) (e : Edge) → ((w : ElemId) → a ≡ Some w → Contains vs w) → ((w : ElemId) → b ≡ Some w → Contains vs w)
    → edge_between a b x ≡ Some e → (e.elem ≡ x) × Contains vs e.source × Contains vs e.dest
between_is vs None b x e f h q = absurd (none_is e q)
between_is vs (Some a) None x e f h q = absurd (none_is e q)
between_is vs (Some a) (Some b) x e f h q =
    let s = some_is (record { elem = x; source = a; dest = b }) e q in
    (sym (ap (λ z. z.elem) s), f e.source (ap (λ z. Some z.source) s), h e.dest (ap (λ z. Some z.dest) s))

pub edge_is : (vs : List ElemId) (shape : EdgeShape) (s : Stored) (e : Edge) → edge_of vs shape s ≡ Some e → (e.elem ≡ elem_of s) × Contains vs e.source × Contains vs e.dest
edge_is vs shape s e h =
    between_is vs (end_of vs shape.source shape.source_columns s.row) (end_of vs shape.dest shape.dest_columns s.row) (elem_of s) e
    (end_stands vs shape.source shape.source_columns s.row) (end_stands vs shape.dest shape.dest_columns s.row) h

-- EDGES

-- what is known of an edge of one edge table
pub edge_in : (vs : List ElemId) (tables : Tables) (shape : EdgeShape) (e : Edge) → Contains (edges_in vs tables shape) e
    → (e.elem.table ≡ shape.table) × Contains vs e.source × Contains vs e.dest
edge_in vs tables shape e c =
    let a = from_filter_map (edge_of vs shape) (held_in shape.table tables) e c in
    let d = in_filter (λ s. s.table.0 == shape.table.0) tables a.0 a.1 in
    let i = edge_is vs shape a.0 e a.2 in
    (ap (λ z. z.table) i.0 ∙ same_table a.0.table shape.table (eqb-true a.0.table.0 shape.table.0 d.1), i.1, i.2)

abbrev edges_of_table : Shapes → List ElemId → Tables → EdgeNo → List Edge
edges_of_table shapes vs tables e = unwrap_or (option_map (edges_in vs tables) (slice_get shapes.edges e.0)) []

in_entry : (vs : List ElemId) (tables : Tables) (o : Option EdgeShape) (e : Edge) → Contains (unwrap_or (option_map (edges_in vs tables) o) []) e
    → (option_map (λ s. s.table) o ≡ Some e.elem.table) × Contains vs e.source × Contains vs e.dest
in_entry vs tables None e c = absurd (in_nil e c)
in_entry vs tables (Some shape) e c = let i = edge_in vs tables shape e c in (ap Some (sym i.0), i.1, i.2)

pub record Stands (shapes : Shapes) (g : GraphShape) (tables : Tables) (e : Edge) : Type 0 where
  pub table : Contains (edge_tables shapes g) e.elem.table
  pub source : Contains (vertices g tables) e.source
  pub dest : Contains (vertices g tables) e.dest

-- an edge stands in an edge table, between vertices
pub edge_stands : (shapes : Shapes) (g : GraphShape) (tables : Tables) (e : Edge) → Contains (edges shapes g tables) e → Stands shapes g tables e
edge_stands shapes g tables e c =
    let a = from_flat_map (edges_of_table shapes (vertices g tables) tables) g.edges e c in
    let i = in_entry (vertices g tables) tables (slice_get shapes.edges a.0.0) e a.2 in
    record { table = in_filter_map (table_of shapes) g.edges a.0 e.elem.table a.1 i.0; source = i.1; dest = i.2 }

distinct_in : (vs : List ElemId) (tables : Tables) (shape : EdgeShape) → IsInOrder tables → Distinct (edges_in vs tables shape)
distinct_in vs tables shape h =
    distinct_under (λ e. elem_place e.elem) (edges_in vs tables shape)
    (distinct_given (edge_of vs shape) place_of (λ e. elem_place e.elem) (λ s e q. ap elem_place (edge_is vs shape s e q).0) (held_in shape.table tables)
    (distinct_filter place_of (λ s. s.table.0 == shape.table.0) tables (distinct_places tables h)))

entries_step : (shapes : Shapes) (vs : List ElemId) (tables : Tables) → IsInOrder tables → (ns : List EdgeNo) (o : Option EdgeShape)
    → Distinct (cons_option (option_map (λ s. s.table) o) (filter_map (table_of shapes) ns))
    → (Distinct (filter_map (table_of shapes) ns) → Distinct (flat_map (edges_of_table shapes vs tables) ns))
    → Distinct (unwrap_or (option_map (edges_in vs tables) o) [] ++ flat_map (edges_of_table shapes vs tables) ns)
entries_step shapes vs tables h ns None d rest = rest d
entries_step shapes vs tables h ns (Some shape) d rest =
    distinct_append (edges_in vs tables shape) (flat_map (edges_of_table shapes vs tables) ns) (distinct_in vs tables shape h) (rest d.1) (λ e a b.
    let i = edge_in vs tables shape e a in
    let n = from_flat_map (edges_of_table shapes vs tables) ns e b in
    let j = in_entry vs tables (slice_get shapes.edges n.0.0) e n.2 in
    d.0 (subst (λ t. Contains (filter_map (table_of shapes) ns) t) i.0 (in_filter_map (table_of shapes) ns n.0 e.elem.table n.1 j.0)))

distinct_entries : (shapes : Shapes) (vs : List ElemId) (tables : Tables) → IsInOrder tables → (ns : List EdgeNo)
    → Distinct (filter_map (table_of shapes) ns) → Distinct (flat_map (edges_of_table shapes vs tables) ns)
distinct_entries shapes vs tables h [] d = tt
distinct_entries shapes vs tables h (n ∷ ns) d = entries_step shapes vs tables h ns (slice_get shapes.edges n.0) d (distinct_entries shapes vs tables h ns)

-- over tables in order the edges of a graph with different edge tables are distinct
pub distinct_edges : (shapes : Shapes) (g : GraphShape) (tables : Tables) → IsInOrder tables → Distinct (edge_tables shapes g) → Distinct (edges shapes g tables)
distinct_edges shapes g tables h d = distinct_entries shapes (vertices g tables) tables h g.edges d
