-- The shapes of a sound catalog are sound, and so is the shape of each of its graphs.
use Rattle.std.proofs.Common.{◌≡◌, ◌+◌, ◌<◌, ◌≤◌, ℕ, zero, suc, refl, ap, sym, ◌∙◌, subst, arith, List, [], ◌∷◌, ◌++◌, map, length, length-append, append_assoc, Contains, Some, None, take, All, zero-add}
use Rattle.std.proofs.lemmas.List.{length-map}
use Rattle.std.proofs.lemmas.List.Elements.{All-head, All-tail}
use Rattle.std.proofs.lemmas.Option.{slice_get-map}
use Rattle.std.specs.Prelude.{filter_map, flat_map, option_map, slice_get}
use Rattle.std.specs.List.{AllZip, cons_option}
use Rattle.pg_keyed.specs.Lists.{Each, each_map, each_append}
use Rattle.pg_value.specs.declared.shape.TableNo.{TableNo}
use Rattle.pg_value.specs.declared.shape.GraphNo.{GraphNo}
use Rattle.pg_value.specs.declared.shape.EdgeNo.{EdgeNo}
use Rattle.pg_value.specs.declared.shape.TableShape.{TableShape}
use Rattle.pg_value.specs.declared.shape.EdgeShape.{EdgeShape}
use Rattle.pg_value.specs.declared.shape.GraphShape.{GraphShape}
use Rattle.pg_meaning.specs.Bindings.{Distinct}
use Rattle.pg_meaning.specs.HopQuery.{edge_tables, table_of}
use Rattle.pg_meaning.specs.Sound.Graphs as sound
use Rattle.pg_rules.specs.declared.entry.ColumnEntry.{ColumnEntry}
use Rattle.pg_rules.specs.declared.entry.TableEntry.{TableEntry}
use Rattle.pg_rules.specs.declared.entry.ElementEntry.{ElementEntry}
use Rattle.pg_rules.specs.declared.entry.EdgeEntry.{EdgeEntry}
use Rattle.pg_rules.specs.declared.entry.GraphEntry.{GraphEntry}
use Rattle.pg_rules.specs.Catalog.{Tables, Graphs, Defined, IsFew, IsSmall}
use Rattle.pg_rules.specs.Catalog.GraphLookUps.{elements_in, graph_in, graph_shape, first_edge, numbers_from}
use Rattle.pg_rules.specs.Catalog.Shapes.{shapes, table_shape, table_shapes, edge_shape, edge_shapes}
use Rattle.pg_rules.specs.Catalog.Sound.{IsKeyColumn, IsSoundTable, IsSoundElement, IsOfKey, IsSoundEnd, IsSoundEdge, IsSoundGraph, IsSound, ShapesAreSound}

-- LISTS

not_some : {X : Type 0} (x : X) → None ≡ Some x → ⊥
not_some x h = cc

below : {X : Type 0} (xs : List X) (i : ℕ) (x : X) → slice_get xs i ≡ Some x → i < length xs
below [] i x h = absurd (not_some x h)
below (y ∷ ys) zero x h = omega arith
below (y ∷ ys) (suc i) x h = let r = below ys i x h in omega arith

stands_mapped : {X Y : Type 0} (f : X → Y) (xs : List X) (i : ℕ) (x : X) → slice_get xs i ≡ Some x → slice_get (map f xs) i ≡ Some (f x)
stands_mapped f xs i x h = slice_get-map f xs i ∙ ap (option_map f) h

each_mapped : {X Y : Type 0} (f : X → Y) (P : X → Type 0) (Q : Y → Type 0) → ((x : X) → P x → Q (f x)) → (xs : List X) → Each P xs → Each Q (map f xs)
each_mapped f P Q g [] h = tt
each_mapped f P Q g (x ∷ xs) h = (g x h.0, each_mapped f P Q g xs h.1)

zip_kept : {X Y : Type 0} (P Q : X → Y → Type 0) → ((x : X) (y : Y) → P x y → Q x y) → (xs : List X) (ys : List Y) → AllZip P xs ys → AllZip Q xs ys
zip_kept P Q g [] [] h = h
zip_kept P Q g [] (y ∷ ys) h = h
zip_kept P Q g (x ∷ xs) [] h = h
zip_kept P Q g (x ∷ xs) (y ∷ ys) h = (g x y h.0, zip_kept P Q g xs ys h.1)

-- TABLES

key_column : (t : TableEntry) (c : ℕ) → IsKeyColumn t.columns c → sound.IsKeyColumn (table_shape t) c
key_column t c k = record { column = k.column.shape; stands = stands_mapped (λ (e : ColumnEntry). e.shape) t.columns c k.column k.stands; not_null = k.not_null }

table_sound : (t : TableEntry) → IsSoundTable t → length t.columns ≤ 32 → sound.IsSoundTable (table_shape t)
table_sound t s few = record {
  few = subst (λ n. n ≤ 32) (sym (length-map t.columns (λ (e : ColumnEntry). e.shape))) few;
  short = s.short;
  differ = s.differ;
  key = each_map (IsKeyColumn t.columns) (sound.IsKeyColumn (table_shape t)) (key_column t) t.key s.key;
}

tables_sound : (ts : Tables) → Each (λ (t : List ℕ × TableEntry). IsSoundTable t.1) ts → All (λ (e : List ℕ × TableEntry). IsFew e.1.columns) ts → Each sound.IsSoundTable (table_shapes ts)
tables_sound [] s few = tt
tables_sound (t ∷ ts) s few =
    (table_sound t.1 s.0 (All-head (λ (e : List ℕ × TableEntry). IsFew e.1.columns) t ts few), tables_sound ts s.1 (All-tail (λ (e : List ℕ × TableEntry). IsFew e.1.columns) t ts few))

-- EDGE TABLES

of_key : (t u : TableEntry) (c k : ℕ) → IsOfKey t.columns u.columns c k → sound.IsOfKey (table_shape t) (table_shape u) c k
of_key t u c k h = record {
  column = h.column.shape;
  key_column = h.key_column.shape;
  stands = stands_mapped (λ (e : ColumnEntry). e.shape) t.columns c h.column h.stands;
  key_stands = stands_mapped (λ (e : ColumnEntry). e.shape) u.columns k h.key_column h.key_stands;
  same_kind = h.same_kind;
}

abbrev shape_at : List ℕ × TableEntry → TableShape
shape_at t = table_shape t.1

names_key : (tables : Tables) (g : GraphEntry) (t : TableEntry) (end : TableNo) (places : List ℕ) (s : IsSoundEnd tables g t.columns end places)
    → sound.NamesKey (table_shape t) (shape_at s.table) places
names_key tables g t end places s = zip_kept (IsOfKey t.columns s.table.1.columns) (sound.IsOfKey (table_shape t) (shape_at s.table)) (of_key t s.table.1) places s.table.1.key s.names_key

edge_sound : (tables : Tables) (g : GraphEntry) (e : EdgeEntry) → IsSoundEdge tables g e → sound.IsSoundEdge (table_shapes tables) (edge_shape e)
edge_sound tables g e s = record {
  table = shape_at s.element.table;
  source = shape_at s.source.table;
  dest = shape_at s.dest.table;
  table_stands = stands_mapped shape_at tables e.element.table.0 s.element.table s.element.stands;
  source_stands = stands_mapped shape_at tables e.source.0 s.source.table s.source.stands;
  dest_stands = stands_mapped shape_at tables e.dest.0 s.dest.table s.dest.stands;
  source_key = names_key tables g s.element.table.1 e.source e.source_columns s.source;
  dest_key = names_key tables g s.element.table.1 e.dest e.dest_columns s.dest;
}

edges_sound : (tables : Tables) (gs : Graphs) → Each (λ (g : List ℕ × GraphEntry). IsSoundGraph tables g.1) gs → Each (sound.IsSoundEdge (table_shapes tables)) (edge_shapes gs)
edges_sound tables [] s = tt
edges_sound tables (g ∷ gs) s =
    each_append (sound.IsSoundEdge (table_shapes tables)) (map edge_shape g.1.edges) (edge_shapes gs)
    (each_mapped edge_shape (IsSoundEdge tables g.1) (sound.IsSoundEdge (table_shapes tables)) (edge_sound tables g.1) g.1.edges s.0.edges) (edges_sound tables gs s.1)

pub shapes_sound : (d : Defined) → IsSound d → IsSmall d → sound.AreSoundShapes (shapes d)
shapes_sound d s small = record {
  few = subst (λ n. n ≤ 64) (sym (length-map d.0 shape_at)) small.0.0;
  tables = tables_sound d.0 s.tables small.0.1;
  edges = edges_sound d.0 d.1 s.graphs;
}

-- THE NUMBERS OF EDGE TABLES

-- a number stands for an edge table among some shapes
abbrev pub StandsFor : List EdgeShape → EdgeNo → EdgeEntry → Type 0
StandsFor all n e = slice_get all n.0 ≡ Some (edge_shape e)

next_behind : (front : List EdgeShape) (s : EdgeShape) (back : List EdgeShape) → slice_get (front ++ s ∷ back) (length front) ≡ Some s
next_behind [] s back = refl
next_behind (f ∷ front) s back = next_behind front s back

own_numbers : (front : List EdgeShape) (es : List EdgeEntry) (back : List EdgeShape) (n : ℕ) → n ≡ length front → AllZip (StandsFor (front ++ (map edge_shape es ++ back))) (numbers_from n es) es
own_numbers front [] back n h = tt
own_numbers front (e ∷ es) back n h =
    let s = edge_shape e in
    let rest = map edge_shape es ++ back in
    let longer : n + 1 ≡ length (front ++ s ∷ []) = ap (λ k. k + 1) h ∙ sym (length-append front (s ∷ [])) in (
      ap (λ k. slice_get (front ++ s ∷ rest) k) h ∙ next_behind front s rest,
      subst (λ all. AllZip (StandsFor all) (numbers_from (n + 1) es) es) (append_assoc front (s ∷ []) rest) (own_numbers (front ++ s ∷ []) es back (n + 1) longer),
    )

abbrev pub edges_of : Graphs → ℕ → List EdgeEntry
edges_of gs n = (graph_in (slice_get gs n)).edges

numbers_among : (front : List EdgeShape) (gs : Graphs) (n : ℕ) → AllZip (StandsFor (front ++ edge_shapes gs)) (numbers_from (length front + first_edge gs n) (edges_of gs n)) (edges_of gs n)
numbers_among front [] n = tt
numbers_among front (g ∷ gs) zero = own_numbers front g.1.edges (edge_shapes gs) (length front + 0) (omega arith)
numbers_among front (g ∷ gs) (suc n) =
    let own = map edge_shape g.1.edges in
    let later = flat_map (λ (e : List ℕ × GraphEntry). e.1.edges) (take n gs) in
    let counted : length (front ++ own) + first_edge gs n ≡ length front + length (g.1.edges ++ later) =
    omega (arith, length-append g.1.edges later, length-append front own, length-map g.1.edges edge_shape) in
    subst (λ k. AllZip (StandsFor (front ++ (own ++ edge_shapes gs))) (numbers_from k (edges_of gs n)) (edges_of gs n)) counted
    (subst (λ all. AllZip (StandsFor all) (numbers_from (length (front ++ own) + first_edge gs n) (edges_of gs n)) (edges_of gs n)) (append_assoc front own (edge_shapes gs)) (numbers_among (front ++ own) gs n))

pub numbers_stand : (d : Defined) (g : GraphNo) → AllZip (StandsFor (edge_shapes d.1)) (numbers_from (first_edge d.1 g.0) (edges_of d.1 g.0)) (edges_of d.1 g.0)
numbers_stand d g = subst (λ k. AllZip (StandsFor (edge_shapes d.1)) (numbers_from k (edges_of d.1 g.0)) (edges_of d.1 g.0)) (zero-add (first_edge d.1 g.0)) (numbers_among [] d.1 g.0)

-- GRAPHS

edge_stands : (d : Defined) (g : GraphEntry) (shape : GraphShape) → shape.vertices ≡ map (λ (e : ElementEntry). e.table) g.vertices → (ns : List EdgeNo) (es : List EdgeEntry)
    → AllZip (StandsFor (edge_shapes d.1)) ns es → Each (IsSoundEdge d.0 g) es → Each (sound.IsEdgeTable (shapes d) shape) ns
edge_stands d g shape h [] [] z s = tt
edge_stands d g shape h [] (e ∷ es) z s = absurd z
edge_stands d g shape h (n ∷ ns) [] z s = absurd z
edge_stands d g shape h (n ∷ ns) (e ∷ es) z s = (
  record {
    shape = edge_shape e;
    stands = z.0;
    source = subst (λ vs. Contains vs e.source) (sym h) s.0.source.vertex;
    dest = subst (λ vs. Contains vs e.dest) (sym h) s.0.dest.vertex;
  },
  edge_stands d g shape h ns es z.1 s.1,
)

pub tables_are : (d : Defined) (ns : List EdgeNo) (es : List EdgeEntry) → AllZip (StandsFor (edge_shapes d.1)) ns es → filter_map (table_of (shapes d)) ns ≡ map (λ (e : EdgeEntry). e.element.table) es
tables_are d [] [] z = refl
tables_are d [] (e ∷ es) z = absurd z
tables_are d (n ∷ ns) [] z = absurd z
tables_are d (n ∷ ns) (e ∷ es) z =
    ap (λ o. cons_option (option_map (λ (s : EdgeShape). s.table) o) (filter_map (table_of (shapes d)) ns)) z.0 ∙ ap (λ ts. e.element.table ∷ ts) (tables_are d ns es z.1)

elements_are : (vs : List ElementEntry) (es : List EdgeEntry)
    → map (λ (e : ElementEntry). e.table) (vs ++ map (λ (e : EdgeEntry). e.element) es) ≡ map (λ (e : ElementEntry). e.table) vs ++ map (λ (e : EdgeEntry). e.element.table) es
elements_are [] [] = refl
elements_are [] (e ∷ es) = ap (λ ts. e.element.table ∷ ts) (elements_are [] es)
elements_are (v ∷ vs) es = ap (λ ts. v.table ∷ ts) (elements_are vs es)

vertices_stand : (tables : Tables) (vs : List ElementEntry) → Each (IsSoundElement tables) vs → Each (λ (t : TableNo). t.0 < length (table_shapes tables)) (map (λ (e : ElementEntry). e.table) vs)
vertices_stand tables vs s =
    each_mapped (λ (e : ElementEntry). e.table) (IsSoundElement tables) (λ (t : TableNo). t.0 < length (table_shapes tables))
    (λ e h. below (table_shapes tables) e.table.0 (shape_at h.table) (stands_mapped shape_at tables e.table.0 h.table h.stands)) vs s

sound_at : (tables : Tables) (gs : Graphs) (n : ℕ) → Each (λ (g : List ℕ × GraphEntry). IsSoundGraph tables g.1) gs → n < length gs → IsSoundGraph tables (graph_in (slice_get gs n))
sound_at tables [] n s h = absurd (omega arith)
sound_at tables (g ∷ gs) zero s h = s.0
sound_at tables (g ∷ gs) (suc n) s h = sound_at tables gs n s.1 (omega arith)

pub graph_sound : (d : Defined) (g : GraphNo) → IsSound d → g.0 < length d.1 → sound.IsSoundGraph (shapes d) (graph_shape d g)
graph_sound d g s h =
    let entry : GraphEntry = graph_in (slice_get d.1 g.0) in
    let own : IsSoundGraph d.0 entry = sound_at d.0 d.1 g.0 s.graphs h in
    let stand = numbers_stand d g in
    let same : map (λ (e : ElementEntry). e.table) (elements_in entry) ≡ (graph_shape d g).vertices ++ edge_tables (shapes d) (graph_shape d g) =
    elements_are entry.vertices entry.edges ∙ ap (λ ts. (graph_shape d g).vertices ++ ts) (sym (tables_are d (numbers_from (first_edge d.1 g.0) entry.edges) entry.edges stand)) in
    record {
      vertices = vertices_stand d.0 entry.vertices own.vertices;
      edges = edge_stands d entry (graph_shape d g) refl (numbers_from (first_edge d.1 g.0) entry.edges) entry.edges stand own.edges;
      differ = subst (λ ts. Distinct ts) same own.differ;
    }

pub shapes_are_sound : ShapesAreSound
shapes_are_sound = record { tables = shapes_sound; graphs = graph_sound }
