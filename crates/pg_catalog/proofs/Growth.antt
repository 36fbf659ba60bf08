-- A table that is defined stands behind the others.
use Rattle.std.proofs.Common.{◌≡◌, ℕ, refl, ap, sym, ◌∙◌, arith, Bool, true, false, List, [], ◌∷◌, ◌++◌, ◌≤◌, ◌<◌, length, position, is_some, Option, Some, None, cond, map, nat_lt, suc, length-append, slice_get, subst, inl, inr}
use Rattle.std.proofs.lemmas.Option.{none-some, slice_get_cases}
use Rattle.std.proofs.lemmas.List.{length-map}
use Rattle.std.proofs.lemmas.List.Elements.{All-push, All-map}
use Rattle.std.specs.Str.{bytes_eq}
use Rattle.std.specs.Map.{keys_of}
use Rattle.std.specs.Option.{option_map, option_to_list, unwrap_or}
use Rattle.std.specs.List.{flat_map, position_or_len}
use Rattle.pg_ast.specs.declared.expr.Name.{Name}
use Rattle.pg_rules.specs.Places.{least, place_if, sooner, fault_at}
use Rattle.indexmap.specs.IndexMap.{insert_entry}
use Rattle.pg_ast.specs.declared.define.TableDef.{TableDef}
use Rattle.pg_ast.specs.declared.define.Define.TheVariants as definitions
use Rattle.pg_rules.specs.Catalog.SoundDefinitions.{IsCatalog, DefinitionsKeepSound}
use Rattle.pg_rules.specs.declared.fault.DefineFault.TheVariants as faults
use Rattle.pg_rules.specs.declared.entry.TableEntry.{TableEntry}
use Rattle.pg_rules.specs.declared.entry.GraphEntry.{GraphEntry}
use borrow.Author.Tests.{ltb-true}
use Rattle.pg_rules.specs.declared.entry.EdgeEntry.{EdgeEntry}
use Rattle.pg_ast.specs.declared.define.GraphDef.{GraphDef}
use Rattle.pg_ast.specs.declared.define.VertexDef.{VertexDef}
use Rattle.pg_ast.specs.declared.define.EdgeDef.{EdgeDef}
use Rattle.pg_rules.specs.Definitions.Entries.{number_of, graph_of, vertex_of, edge_of, with_graph, elements_of}
use Rattle.pg_rules.specs.Definitions.Graphs as judge
use Rattle.pg_rules.specs.Catalog.{Tables, Graphs, Defined, IsSmall, IsFew, AreSmall, HasBit, IsSmallGraph}
use Rattle.pg_rules.specs.Definitions.Tables.{table_fault, is_defined, is_full, name_taken, no_column, key_mismatch, limit, names, beyond, with_table, entry_of, column_of, key_of, too_long_column}

some_mapped : {A B : Type 0} (f : A → B) (o : Option A) → is_some (option_map f o) ≡ is_some o
some_mapped f None = refl
some_mapped f (Some x) = refl

pub appended : {X : Type 0} (es : List (List ℕ × X)) (k : List ℕ) (v : X) → is_some (position (bytes_eq k) (keys_of es)) ≡ false → insert_entry bytes_eq es k v ≡ es ++ (k, v) ∷ []
appended [] k v h = refl
appended (e ∷ es) k v h = elim (bytes_eq k e.0) as (λ b. bytes_eq k e.0 ≡ b → insert_entry bytes_eq (e ∷ es) k v ≡ (e ∷ es) ++ (k, v) ∷ []) [
  | true ↦ λ b. grind arith
  | false ↦ λ b. let m = some_mapped suc (position (bytes_eq k) (keys_of es)) in let r = appended es k v (grind arith) in rw b (ap (λ l. e ∷ l) r)
] refl

none_fault : {F : Type 0} (f : ℕ → F) (o : Option ℕ) (later : Option F) → fault_at f o later ≡ None → (o ≡ None) × (later ≡ None)
none_fault f None later h = (refl, h)
none_fault f (Some p) later h = cc

no_first : (p : ℕ) (o : Option ℕ) → sooner (Some p) o ≡ None → ⊥
no_first p None h = cc
no_first p (Some q) h = cc

no_place : (b : Bool) (at : ℕ) (ps : List ℕ) → least (place_if b at ++ ps) ≡ None → (b ≡ false) × (least ps ≡ None)
no_place true at ps h = absurd (no_first at (least ps) h)
no_place false at ps h = (refl, h)

few_at : (o : Option Name) (ps : List ℕ) → least (option_to_list (option_map (λ n. n.at) o) ++ ps) ≡ None → o ≡ None
few_at None ps h = refl
few_at (Some n) ps h = absurd (no_first n.at (least ps) h)

no_limit : (d : Defined) (t : TableDef) → table_fault d t ≡ None → least (limit (is_full d) t) ≡ None
no_limit d t h =
    let a = none_fault faults.NameTaken (least (name_taken (is_defined d t.name.text) t)) _ h in
    let b = none_fault faults.NoColumn (least (no_column t)) _ a.1 in
    let c = none_fault faults.KeyMismatch (least (key_mismatch t)) _ b.1 in
    (none_fault faults.Limit (least (limit (is_full d) t)) _ c.1).0

sizes : (d : Defined) (t : TableDef) → table_fault d t ≡ None → (is_full d ≡ false) × (least (beyond 32 (names t.columns) ++ (flat_map (beyond 4) t.keys ++ flat_map too_long_column t.columns)) ≡ None)
sizes d t h = no_place (is_full d) t.at (beyond 32 (names t.columns) ++ (flat_map (beyond 4) t.keys ++ flat_map too_long_column t.columns)) (no_limit d t h)

short : {X : Type 0} (xs : List X) (k : ℕ) → slice_get xs k ≡ None → length xs ≤ k
short xs k h = elim (slice_get_cases xs k).1 [ inl w ↦ absurd (none-some w.0 (sym h ∙ w.2)) | inr r ↦ r.0 ]

pub few : (d : Defined) (t : TableDef) → table_fault d t ≡ None → length t.columns ≤ 32
few d t h =
    let s = few_at (slice_get (names t.columns) 32) (flat_map (beyond 4) t.keys ++ flat_map too_long_column t.columns) (sizes d t h).1 in
    subst (λ n. n ≤ 32) (length-map t.columns (λ c. c.name)) (short (names t.columns) 32 s)

pub not_full : (d : Defined) (t : TableDef) → table_fault d t ≡ None → length d.0 ≤ 63
not_full d t h = let s = (sizes d t h).0 in grind arith

pub small : (d : Defined) (t : TableDef) → IsSmall d → table_fault d t ≡ None → IsSmall (with_table d t)
small d t s h =
    let n = not_full d t h in
    let f = few d t h in
    let l = length-map t.columns (column_of (key_of t.keys)) in
    ((grind (arith, length-append), All-push (λ (e : List ℕ × TableEntry). IsFew e.1.columns) d.0 (t.name.text, entry_of t) s.0.1 (grind arith)), s.1)

-- A GRAPH

at_most : (k n : ℕ) (b : Bool) → nat_lt k n ≡ b → n ≤ 64 → unwrap_or (cond b (Some k) None) 0 < 64
at_most k n true h l = let s = ltb-true k n h in omega arith
at_most k n false h l = omega arith

number_small : (tables : Tables) (name : List ℕ) → length tables ≤ 64 → (number_of tables name).0 < 64
number_small tables name l =
    let names = map (λ (e : List ℕ × TableEntry). e.0) tables in
    at_most (position_or_len (bytes_eq name) names) (length names) (nat_lt (position_or_len (bytes_eq name) names) (length names)) refl (subst (λ n. n ≤ 64) (sym (length-map tables (λ (e : List ℕ × TableEntry). e.0))) l)

no_graph_limit : (d : Defined) (g : GraphDef) → judge.graph_fault d g ≡ None → least (judge.limit (judge.is_full d) g) ≡ None
no_graph_limit d g h =
    let a = none_fault faults.NameTaken (least (judge.name_taken (is_defined d g.name.text) g)) _ h in
    let b = none_fault faults.NoTable (least (judge.no_table d.0 g)) _ a.1 in
    let c = none_fault faults.NoColumn (least (judge.no_column d.0 g)) _ b.1 in
    let k = none_fault faults.KeyMismatch (least (judge.key_mismatch d.0 g)) _ c.1 in
    let l = none_fault faults.LabelMismatch (least (judge.label_mismatch (elements_of d.0 g))) _ k.1 in
    let t = none_fault faults.TypeMismatch (least (judge.type_mismatch (elements_of d.0 g))) _ l.1 in
    (none_fault faults.Limit (least (judge.limit (judge.is_full d) g)) _ t.1).0

graph_sizes : (d : Defined) (g : GraphDef) → judge.graph_fault d g ≡ None → (judge.is_full d ≡ false) × (length (judge.element_names g) ≤ 32)
graph_sizes d g h =
    let rest = flat_map (λ (v : VertexDef). judge.ninth_label v.labels) g.vertices ++ flat_map (λ (e : EdgeDef). judge.ninth_label e.labels) g.edges in
    let s = no_place (judge.is_full d) g.at (beyond 32 (judge.element_names g) ++ rest) (no_graph_limit d g h) in
    (s.0, short (judge.element_names g) 32 (few_at (slice_get (judge.element_names g) 32) rest s.1))

few_edges : (g : GraphDef) → length (judge.element_names g) ≤ 32 → length g.edges ≤ 32
few_edges g h =
    let a = length-append (judge.vertex_names g.vertices) (judge.edge_names g.edges) in
    let b = length-map g.edges (λ (e : EdgeDef). e.table) in
    omega arith

graph_is_small : (tables : Tables) (g : GraphDef) → AreSmall tables → length g.edges ≤ 32 → IsSmallGraph (graph_of tables g)
graph_is_small tables g s l = (
  subst (λ n. n ≤ 32) (sym (length-map g.edges (edge_of tables))) l,
  (
    All-map HasBit (vertex_of tables) g.vertices (λ k v h. number_small tables _ s.0),
    All-map (λ (e : EdgeEntry). HasBit e.element) (edge_of tables) g.edges (λ k e h. number_small tables _ s.0),
  ),
)

room : (d : Defined) → judge.is_full d ≡ false → length d.1 ≤ 15
room d h = grind arith

pub graph_small : (d : Defined) (g : GraphDef) → IsSmall d → judge.graph_fault d g ≡ None → IsSmall (with_graph d g)
graph_small d g s h =
    let z = graph_sizes d g h in
    let r = room d z.0 in
    let a = length-append d.1 ((g.name.text, graph_of d.0 g) ∷ []) in
    (s.0, (omega arith, All-push (λ (e : List ℕ × GraphEntry). IsSmallGraph e.1) d.1 (g.name.text, graph_of d.0 g) s.1.1 (graph_is_small d.0 g s.0 (few_edges g z.1))))

-- WHAT IS ADDED

pub table_added : (d : Defined) (t : TableDef) (tables : Tables) (name : List ℕ) (entry : TableEntry) → DefinitionsKeepSound → tables ≡ d.0 ++ (name, entry) ∷ [] → name ≡ t.name.text → entry ≡ entry_of t
    → IsCatalog d → table_fault d t ≡ None → IsCatalog (tables, d.1)
table_added d t tables name entry law e n k c h =
    subst (λ ts. IsCatalog (ts, d.1)) (sym (e ∙ ap (λ m. d.0 ++ (m, entry) ∷ []) n ∙ ap (λ x. d.0 ++ (t.name.text, x) ∷ []) k))
    (record { small = small d t c.small h; sound = law d (definitions.Table t) c.sound h })

pub graph_added : (d : Defined) (g : GraphDef) (graphs : Graphs) (name : List ℕ) (entry : GraphEntry) → DefinitionsKeepSound → graphs ≡ d.1 ++ (name, entry) ∷ [] → name ≡ g.name.text → entry ≡ graph_of d.0 g
    → IsCatalog d → judge.graph_fault d g ≡ None → IsCatalog (d.0, graphs)
graph_added d g graphs name entry law e n k c h =
    subst (λ gs. IsCatalog (d.0, gs)) (sym (e ∙ ap (λ m. d.1 ++ (m, entry) ∷ []) n ∙ ap (λ x. d.1 ++ (g.name.text, x) ∷ []) k))
    (record { small = graph_small d g c.small h; sound = law d (definitions.Graph g) c.sound h })
