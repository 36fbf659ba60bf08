-- A graph's definition that is accepted defines a sound graph.
use Rattle.std.proofs.Common.{◌≡◌, ℕ, Bool, true, false, not, ◌&&◌, refl, ap, sym, subst, List, [], ◌∷◌, ◌++◌, map, Contains, inl, inr, is_some}
use Rattle.std.specs.List.{flat_map}
use Rattle.std.specs.declared.option.Option.TheVariants.{None}
use Rattle.pg_keyed.specs.Lists.{Each, each_append}
use Rattle.pg_value.specs.declared.shape.TableNo.{TableNo}
use Rattle.pg_ast.specs.declared.expr.Name.{Name}
use Rattle.pg_ast.specs.declared.define.VertexDef.{VertexDef}
use Rattle.pg_ast.specs.declared.define.EndDef.{EndDef}
use Rattle.pg_ast.specs.declared.define.EdgeDef.{EdgeDef}
use Rattle.pg_ast.specs.declared.define.GraphDef.{GraphDef}
use Rattle.pg_meaning.specs.Bindings.{Distinct}
use Rattle.pg_meaning.specs.Members.{in_append, in_left, in_right, in_map, from_map}
use Rattle.pg_rules.specs.declared.entry.PropertyEntry.{PropertyEntry}
use Rattle.pg_rules.specs.declared.entry.ElementEntry.{ElementEntry}
use Rattle.pg_rules.specs.declared.entry.EdgeEntry.{EdgeEntry}
use Rattle.pg_rules.specs.declared.entry.PlacedElement.{PlacedElement}
use Rattle.pg_rules.specs.declared.fault.DefineFault.TheVariants as faults
use Rattle.pg_rules.specs.Places.{least, place_if}
use Rattle.pg_rules.specs.Catalog.{Tables, Defined}
use Rattle.pg_rules.specs.Catalog.LookUps.{table_in, columns_named, key_named}
use Rattle.pg_rules.specs.Catalog.Sound.{IsSoundElement, IsSoundEdge, IsSoundGraph, IsSound, properties_in, all_properties}
use Rattle.pg_rules.specs.Definitions.Tables.{is_defined, repeats}
use Rattle.pg_rules.specs.Definitions.Entries.{number_of, vertex_of, edge_element, edge_of, graph_of, placed_vertex, placed_edge, elements_of}
use Rattle.pg_rules.specs.Definitions.Graphs.{graph_fault, name_taken, no_table, no_column, key_mismatch, label_mismatch, type_mismatch, vertex_names, edge_names, element_names, twice_labelled, no_such, no_vertex, edge_without_table, vertex_texts, missing_key, missing_labelled, missing_element, missing_end, missing_edge, pairwise, fits_column, is_key, key_fits, end_fits, edge_fits, rows, differ, later_of, two_columns}
use Rattle.pg_rules.proofs.KeptSound.EmptyPlaces.{left_nil, right_nil, each_nil, no_place, no_fault, no_least, is_not}
use Rattle.pg_rules.proofs.KeptSound.Lists.{each_at, each_mapped, and_left, and_right, distinct_named}
use Rattle.pg_rules.proofs.KeptSound.Columns.{is_table, one_table, table_is}
use Rattle.pg_rules.proofs.KeptSound.SoundElements.{element_sound}
use Rattle.pg_rules.proofs.KeptSound.SoundEnds.{end_sound}
use Rattle.pg_rules.proofs.KeptSound.OneKind.{OneKind, own_kind, one_kind, element_in}

-- NO KIND OF FAULT HAS A PLACE

record HasNoPlace (d : Defined) (g : GraphDef) : Type 0 where
  taken : name_taken (is_defined d g.name.text) g ≡ []
  there : no_table d.0 g ≡ []
  known : no_column d.0 g ≡ []
  fits : key_mismatch d.0 g ≡ []
  labels : label_mismatch (elements_of d.0 g) ≡ []
  types : type_mismatch (elements_of d.0 g) ≡ []

has_no_place : (d : Defined) (g : GraphDef) → graph_fault d g ≡ None → HasNoPlace d g
has_no_place d g h =
    let a = no_fault faults.NameTaken (least (name_taken (is_defined d g.name.text) g)) _ h in
    let b = no_fault faults.NoTable (least (no_table d.0 g)) _ a.1 in
    let c = no_fault faults.NoColumn (least (no_column d.0 g)) _ b.1 in
    let e = no_fault faults.KeyMismatch (least (key_mismatch d.0 g)) _ c.1 in
    let f = no_fault faults.LabelMismatch (least (label_mismatch (elements_of d.0 g))) _ e.1 in
    let k = no_fault faults.TypeMismatch (least (type_mismatch (elements_of d.0 g))) _ f.1 in
    record {
      taken = no_least (name_taken (is_defined d g.name.text) g) a.0;
      there = no_least (no_table d.0 g) b.0;
      known = no_least (no_column d.0 g) c.0;
      fits = no_least (key_mismatch d.0 g) e.0;
      labels = no_least (label_mismatch (elements_of d.0 g)) f.0;
      types = no_least (type_mismatch (elements_of d.0 g)) k.0;
    }

-- THE ELEMENT TABLES AS THEY ARE WRITTEN AND AS THEY ARE DEFINED

elements_are : (tables : Tables) (vs : List VertexDef) (es : List EdgeDef)
    → map element_in (map (placed_vertex tables) vs ++ map (placed_edge tables) es) ≡ map (vertex_of tables) vs ++ map (λ (e : EdgeEntry). e.element) (map (edge_of tables) es)
elements_are tables [] [] = refl
elements_are tables [] (e ∷ es) = ap (λ xs. edge_element tables e ∷ xs) (elements_are tables [] es)
elements_are tables (v ∷ vs) es = ap (λ xs. vertex_of tables v ∷ xs) (elements_are tables vs es)

abbrev number_named : Tables → Name → TableNo
number_named tables n = number_of tables n.text

numbers_are : (tables : Tables) (vs : List VertexDef) (es : List EdgeDef)
    → map (number_named tables) (vertex_names vs ++ edge_names es) ≡ map (λ (e : ElementEntry). e.table) (map (vertex_of tables) vs ++ map (λ (e : EdgeEntry). e.element) (map (edge_of tables) es))
numbers_are tables [] [] = refl
numbers_are tables [] (e ∷ es) = ap (λ xs. number_named tables e.table ∷ xs) (numbers_are tables [] es)
numbers_are tables (v ∷ vs) es = ap (λ xs. number_named tables v.table ∷ xs) (numbers_are tables vs es)

module _ (d : Defined) (g : GraphDef) (h : HasNoPlace d g) where
  -- TABLES THAT STAND

  exists : (n : Name) → no_such d.0 n ≡ [] → is_some (table_in d.0 n.text) ≡ true
  exists n e = is_not (is_some (table_in d.0 n.text)) (no_place (not (is_some (table_in d.0 n.text))) n.at e)

  abbrev no_vertex_tables : List ℕ
  no_vertex_tables = flat_map (λ (v : VertexDef). no_such d.0 v.table) g.vertices

  abbrev no_edge_tables : List ℕ
  no_edge_tables = flat_map (edge_without_table d.0 (vertex_texts g.vertices)) g.edges

  vertex_there : (v : VertexDef) → Contains g.vertices v → is_some (table_in d.0 v.table.text) ≡ true
  vertex_there v c = exists v.table (each_at (λ (x : VertexDef). no_such d.0 x.table ≡ []) g.vertices v (each_nil (λ (x : VertexDef). no_such d.0 x.table) g.vertices (left_nil no_vertex_tables no_edge_tables h.there)) c)

  edge_free : (e : EdgeDef) → Contains g.edges e → edge_without_table d.0 (vertex_texts g.vertices) e ≡ []
  edge_free e c = each_at (λ (x : EdgeDef). edge_without_table d.0 (vertex_texts g.vertices) x ≡ []) g.edges e (each_nil (edge_without_table d.0 (vertex_texts g.vertices)) g.edges (right_nil no_vertex_tables no_edge_tables h.there)) c

  abbrev no_end : EndDef → List ℕ
  no_end end = no_vertex d.0 (vertex_texts g.vertices) end.table

  edge_there : (e : EdgeDef) → Contains g.edges e → is_some (table_in d.0 e.table.text) ≡ true
  edge_there e c = exists e.table (left_nil (no_such d.0 e.table) (no_end e.source ++ no_end e.dest) (edge_free e c))

  ends_there : (e : EdgeDef) → Contains g.edges e → no_end e.source ++ no_end e.dest ≡ []
  ends_there e c = right_nil (no_such d.0 e.table) (no_end e.source ++ no_end e.dest) (edge_free e c)

  name_there : (n : Name) → Contains (element_names g) n → is_some (table_in d.0 n.text) ≡ true
  name_there n c = elim (in_append (vertex_names g.vertices) (edge_names g.edges) n c) [
    | inl a ↦ (let v = from_map (λ (x : VertexDef). x.table) g.vertices n a in subst (λ (m : Name). is_some (table_in d.0 m.text) ≡ true) v.2 (vertex_there v.0 v.1))
    | inr b ↦ (let e = from_map (λ (x : EdgeDef). x.table) g.edges n b in subst (λ (m : Name). is_some (table_in d.0 m.text) ≡ true) e.2 (edge_there e.0 e.1))
  ]

  -- COLUMNS THAT STAND

  abbrev missing_vertex : VertexDef → List ℕ
  missing_vertex v = missing_element d.0 v.table v.key v.labels

  vertex_known : (v : VertexDef) → Contains g.vertices v → missing_labelled (columns_named d.0 v.table.text) v.labels ≡ []
  vertex_known v c =
      let all : flat_map missing_vertex g.vertices ≡ [] = left_nil (flat_map missing_vertex g.vertices) (flat_map (missing_edge d.0) g.edges) h.known in
      let own : missing_vertex v ≡ [] = each_at (λ (x : VertexDef). missing_vertex x ≡ []) g.vertices v (each_nil missing_vertex g.vertices all) c in
      right_nil (missing_key (columns_named d.0 v.table.text) v.key) (missing_labelled (columns_named d.0 v.table.text) v.labels) own

  edge_known : (e : EdgeDef) → Contains g.edges e → missing_labelled (columns_named d.0 e.table.text) e.labels ≡ []
  edge_known e c =
      let all : flat_map (missing_edge d.0) g.edges ≡ [] = right_nil (flat_map missing_vertex g.vertices) (flat_map (missing_edge d.0) g.edges) h.known in
      let own : missing_edge d.0 e ≡ [] = each_at (λ (x : EdgeDef). missing_edge d.0 x ≡ []) g.edges e (each_nil (missing_edge d.0) g.edges all) c in
      let element : missing_element d.0 e.table e.key e.labels ≡ [] = left_nil (missing_element d.0 e.table e.key e.labels) (missing_end d.0 e.table e.source ++ missing_end d.0 e.table e.dest) own in
      right_nil (missing_key (columns_named d.0 e.table.text) e.key) (missing_labelled (columns_named d.0 e.table.text) e.labels) element

  -- KEYS THAT FIT

  abbrev vertex_misfit : VertexDef → List ℕ
  vertex_misfit v = place_if (not (key_fits d.0 v.table v.key)) v.table.at

  abbrev edge_misfit : EdgeDef → List ℕ
  edge_misfit e = place_if (not (edge_fits d.0 e)) e.table.at

  ends_fit : (e : EdgeDef) → Contains g.edges e → (end_fits d.0 e.table e.source && end_fits d.0 e.table e.dest) ≡ true
  ends_fit e c =
      let all : flat_map edge_misfit g.edges ≡ [] = right_nil (flat_map vertex_misfit g.vertices) (flat_map edge_misfit g.edges) h.fits in
      let own : edge_misfit e ≡ [] = each_at (λ (x : EdgeDef). edge_misfit x ≡ []) g.edges e (each_nil edge_misfit g.edges all) c in
      let fits : edge_fits d.0 e ≡ true = is_not (edge_fits d.0 e) (no_place (not (edge_fits d.0 e)) e.table.at own) in
      and_right (key_fits d.0 e.table e.key) (end_fits d.0 e.table e.source && end_fits d.0 e.table e.dest) fits

  columns_fit : (table : Name) (end : EndDef) → end_fits d.0 table end ≡ true
      → pairwise (fits_column (columns_named d.0 table.text) (columns_named d.0 end.table.text)) end.columns (key_named d.0 end.table.text) ≡ true
  columns_fit table end fits =
      and_right (is_key d.0 end.table end.target) (pairwise (fits_column (columns_named d.0 table.text) (columns_named d.0 end.table.text)) end.columns (key_named d.0 end.table.text)) fits

  -- ELEMENT TABLES

  abbrev two_at : PlacedElement → List ℕ
  two_at e = place_if (two_columns (rows e.element)) e.at

  one_column_each : (x : PlacedElement) → Contains (elements_of d.0 g) x → two_columns (rows x.element) ≡ false
  one_column_each x c =
      let all : flat_map two_at (elements_of d.0 g) ≡ [] = right_nil (later_of differ (elements_of d.0 g)) (flat_map two_at (elements_of d.0 g)) h.labels in
      no_place (two_columns (rows x.element)) x.at (each_at (λ (y : PlacedElement). two_at y ≡ []) (elements_of d.0 g) x (each_nil two_at (elements_of d.0 g) all) c)

  abbrev placed_vertices : List PlacedElement
  placed_vertices = map (placed_vertex d.0) g.vertices

  abbrev placed_edges : List PlacedElement
  placed_edges = map (placed_edge d.0) g.edges

  vertex_sound : (v : VertexDef) → Contains g.vertices v → IsSoundElement d.0 (vertex_of d.0 v)
  vertex_sound v c =
      let among : Contains (elements_of d.0 g) (placed_vertex d.0 v) = in_left placed_vertices placed_edges (placed_vertex d.0 v) (in_map (placed_vertex d.0) g.vertices v c) in
      element_sound d.0 v.table v.labels (vertex_there v c) (vertex_known v c) (one_column_each (placed_vertex d.0 v) among)

  edge_element_sound : (e : EdgeDef) → Contains g.edges e → IsSoundElement d.0 (edge_element d.0 e)
  edge_element_sound e c =
      let among : Contains (elements_of d.0 g) (placed_edge d.0 e) = in_right placed_vertices placed_edges (placed_edge d.0 e) (in_map (placed_edge d.0) g.edges e c) in
      element_sound d.0 e.table e.labels (edge_there e c) (edge_known e c) (one_column_each (placed_edge d.0 e) among)

  edge_sound : (e : EdgeDef) → IsSound d → Contains g.edges e → IsSoundEdge d.0 (graph_of d.0 g) (edge_of d.0 e)
  edge_sound e s c =
      let own : IsSoundElement d.0 (edge_element d.0 e) = edge_element_sound e c in
      let is = table_is d.0 e.table.text own.table (is_table d.0 e.table.text (edge_there e c)) own.stands in
      let first : Bool = end_fits d.0 e.table e.source in
      let second : Bool = end_fits d.0 e.table e.dest in
      record {
        element = own;
        source = end_sound d.0 g e.table own.table e.source s.tables is (left_nil (no_end e.source) (no_end e.dest) (ends_there e c)) (columns_fit e.table e.source (and_left first second (ends_fit e c)));
        dest = end_sound d.0 g e.table own.table e.dest s.tables is (right_nil (no_end e.source) (no_end e.dest) (ends_there e c)) (columns_fit e.table e.dest (and_right first second (ends_fit e c)));
      }

  -- THE GRAPH

  not_twice : repeats (element_names g) ≡ []
  not_twice =
      let labelled : List ℕ = flat_map (λ (v : VertexDef). twice_labelled v.labels) g.vertices ++ flat_map (λ (e : EdgeDef). twice_labelled e.labels) g.edges in
      left_nil (repeats (element_names g)) labelled (right_nil (place_if (is_defined d g.name.text) g.name.at) (repeats (element_names g) ++ labelled) h.taken)

  tables_differ : Distinct (map (number_named d.0) (element_names g))
  tables_differ = distinct_named (number_named d.0) (element_names g)
      (λ a b c k e. one_table d.0 a.text b.text (is_table d.0 a.text (name_there a c)) (is_table d.0 b.text (name_there b k)) e) not_twice

  kinds_agree : (p q : PropertyEntry) → Contains (all_properties (graph_of d.0 g)) p → Contains (all_properties (graph_of d.0 g)) q → p.name ≡ q.name → p.kind ≡ q.kind
  kinds_agree p q a b same =
      let own : Each (λ (e : PlacedElement). OneKind e.element) (elements_of d.0 g) = each_append (λ (e : PlacedElement). OneKind e.element) placed_vertices placed_edges
      (each_mapped (placed_vertex d.0) (λ (e : PlacedElement). OneKind e.element) g.vertices (λ v c. own_kind d.0 (vertex_of d.0 v) (vertex_sound v c)))
      (each_mapped (placed_edge d.0) (λ (e : PlacedElement). OneKind e.element) g.edges (λ e c. own_kind d.0 (edge_element d.0 e) (edge_element_sound e c))) in
      let is : all_properties (graph_of d.0 g) ≡ flat_map properties_in (map element_in (elements_of d.0 g)) = ap (flat_map properties_in) (sym (elements_are d.0 g.vertices g.edges)) in
      one_kind (elements_of d.0 g) h.types own p q (subst (λ (ps : List PropertyEntry). Contains ps p) is a) (subst (λ (ps : List PropertyEntry). Contains ps q) is b) same

pub graph_sound : (d : Defined) (g : GraphDef) → IsSound d → graph_fault d g ≡ None → IsSoundGraph d.0 (graph_of d.0 g)
graph_sound d g s fault =
    let h : HasNoPlace d g = has_no_place d g fault in
    record {
      vertices = each_mapped (vertex_of d.0) (IsSoundElement d.0) g.vertices (vertex_sound d g h);
      edges = each_mapped (edge_of d.0) (IsSoundEdge d.0 (graph_of d.0 g)) g.edges (λ e c. edge_sound d g h e s c);
      differ = subst (λ (ts : List TableNo). Distinct ts) (numbers_are d.0 g.vertices g.edges) (tables_differ d g h);
      one_kind = kinds_agree d g h;
    }
