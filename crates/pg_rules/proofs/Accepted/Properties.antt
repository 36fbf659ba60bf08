-- In a sound catalog the columns of a property, table by table, are what its name stands for in a query.
use Rattle.std.proofs.Common.{◌≡◌, ◌+◌, ◌≤◌, ◌<◌, ℕ, zero, suc, Bool, true, false, cond, refl, ap, sym, ◌∙◌, subst, arith, zero-add, eq-eqb, List, [], ◌∷◌, map, length, Contains, ◌⊎◌, inl, inr, Option, Some, None, find}
use Rattle.std.proofs.lemmas.Bool.{eqb-true}
use Rattle.std.proofs.lemmas.Option.{slice_get-map}
use Rattle.std.specs.Prelude.{option_map, slice_get, IfSome}
use Rattle.std.specs.List.{AllZip, cons_option, flat_map, range_with_len}
use Rattle.std.specs.Str.{bytes_eq}
use Rattle.pg_keyed.specs.Lists.{Each, each_append, each_cons}
use Rattle.pg_value.specs.declared.value.Kind.{Kind}
use Rattle.pg_value.specs.declared.shape.GraphNo.{GraphNo}
use Rattle.pg_value.specs.declared.shape.ColumnShape.{ColumnShape}
use Rattle.pg_value.specs.declared.shape.TableShape.{TableShape}
use Rattle.pg_meaning.specs.Bindings.{Distinct}
use Rattle.pg_meaning.specs.Members.{in_nil, in_cons, in_here, in_there, in_map, from_map, from_flat_map}
use Rattle.pg_meaning.specs.Typing.{Typed, typed, width_named}
use Rattle.pg_meaning.specs.Sound.{IsProperty}
use Rattle.pg_meaning.specs.Sound.Kinds.{property_in, property_columns, first_kind, greatest_width}
use Rattle.pg_rules.specs.declared.entry.ColumnEntry.{ColumnEntry}
use Rattle.pg_rules.specs.declared.entry.TableEntry.{TableEntry}
use Rattle.pg_rules.specs.declared.entry.PropertyEntry.{PropertyEntry}
use Rattle.pg_rules.specs.declared.entry.LabelEntry.{LabelEntry}
use Rattle.pg_rules.specs.declared.entry.ElementEntry.{ElementEntry}
use Rattle.pg_rules.specs.declared.entry.EdgeEntry.{EdgeEntry}
use Rattle.pg_rules.specs.declared.entry.GraphEntry.{GraphEntry}
use Rattle.pg_rules.specs.Catalog.{Tables, Graphs, Defined}
use Rattle.pg_rules.specs.Catalog.LookUps.{table_number}
use Rattle.pg_rules.specs.Catalog.GraphLookUps as look
use Rattle.pg_rules.specs.Catalog.GraphLookUps.{elements_in, is_table, property_at, graph_in, graph_numbered}
use Rattle.pg_rules.specs.Catalog.Shapes.{table_shape, table_shapes}
use Rattle.pg_rules.specs.Catalog.Sound.{IsSoundProperty, IsSoundElement, IsSoundEdge, IsSoundGraph, IsSound, properties_in, all_properties}
use Rattle.pg_rules.specs.Definitions.Graphs.{Row, rows_of, rows}
use Rattle.pg_rules.specs.Queries.{property_of}
use Rattle.pg_rules.specs.Queries.CheckedQueries.{columns_of}
use Rattle.pg_rules.proofs.KeptSound.Lists.{each_at, in_flat_map, same_bytes}

-- WHAT A SEARCH FINDS

pub none_is : {X : Type 0} (x : X) → None ≡ Some x → ⊥
none_is x h = cc

pub some_is : {X : Type 0} (x y : X) → Some x ≡ Some y → x ≡ y
some_is x y h = cc

-- the item that a search finds
pub found_item : {X : Type 0} (test : X → Bool) (xs : List X) (x : X) → find test xs ≡ Some x → Contains xs x × (test x ≡ true)
found_item test [] x h = absurd (none_is x h)
found_item test (y ∷ xs) x h = go (test y) refl h (found_item test xs x)
  where
    go : (b : Bool) → test y ≡ b → cond b (Some y) (find test xs) ≡ Some x → (find test xs ≡ Some x → Contains xs x × (test x ≡ true)) → Contains (y ∷ xs) x × (test x ≡ true)
    go true e k rest = let s = some_is y x k in (in_here y xs x s, ap test (sym s) ∙ e)
    go false e k rest = let r = rest k in (in_there y xs x r.0, r.1)

-- where an item passes the test, a search finds one
pub item_found : {X : Type 0} (test : X → Bool) (xs : List X) (x : X) → Contains xs x → test x ≡ true → (y : X) × (find test xs ≡ Some y)
item_found test [] x c h = absurd (in_nil x c)
item_found {X = X} test (y ∷ xs) x c h = go (test y) refl (in_cons y xs x c) (λ r. item_found test xs x r h)
  where
    go : (b : Bool) → test y ≡ b → (y ≡ x) ⊎ Contains xs x → (Contains xs x → (z : X) × (find test xs ≡ Some z)) → (z : X) × (cond b (Some y) (find test xs) ≡ Some z)
    go true e k rest = (y, refl)
    go false e (inl s) rest = absurd (cc)
    go false e (inr r) rest = rest r

-- items of which something differs are one where that is one
pub one_item : {X Y : Type 0} (f : X → Y) (xs : List X) (x y : X) → Distinct (map f xs) → Contains xs x → Contains xs y → f x ≡ f y → x ≡ y
one_item f [] x y d c k e = absurd (in_nil x c)
one_item f (z ∷ xs) x y d c k e = elim (in_cons z xs x c) [
  | inl s ↦ elim (in_cons z xs y k) [
    | inl t ↦ sym s ∙ t
    | inr r ↦ absurd (d.0 (subst (λ w. Contains (map f xs) w) (sym e ∙ ap f (sym s)) (in_map f xs y r)))
  ]
  | inr r ↦ elim (in_cons z xs y k) [
    | inl t ↦ absurd (d.0 (subst (λ w. Contains (map f xs) w) (e ∙ ap f (sym t)) (in_map f xs x r)))
    | inr u ↦ one_item f xs x y d.1 r u e
  ]
]

-- COLUMNS TABLE BY TABLE

abbrev pub shape_at : List ℕ × TableEntry → TableShape
shape_at t = table_shape t.1

-- the columns that a function of their numbers gives some tables, the first of which has this number
abbrev columns_from : (ℕ → Option ℕ) → ℕ → Tables → List Typed
columns_from f n ts = property_columns (table_shapes ts) (map f (range_with_len n (length ts)))

each_column : (P : Typed → Type 0) (f : ℕ → Option ℕ) (n : ℕ) (ts : Tables)
    → ((k : ℕ) (t : List ℕ × TableEntry) (u : Typed) → slice_get ts k ≡ Some t → property_in (shape_at t) (f (n + k)) ≡ Some u → P u) → Each P (columns_from f n ts)
each_column P f n [] h = tt
each_column P f n (t ∷ ts) h =
    let first : n ≡ n + 0 = omega arith in
    each_cons P (property_in (shape_at t) (f n)) (columns_from f (n + 1) ts)
    (λ u e. h 0 t u refl (ap (λ i. property_in (shape_at t) (f i)) (sym first) ∙ e))
    (each_column P f (n + 1) ts (λ k s u stands e. let next : n + suc k ≡ (n + 1) + k = omega arith in h (suc k) s u stands (ap (λ i. property_in (shape_at s) (f i)) next ∙ e)))

in_rest : {X : Type 0} (o : Option X) (xs : List X) (x : X) → Contains xs x → Contains (cons_option o xs) x
in_rest None xs x c = c
in_rest (Some y) xs x c = in_there y xs x c

has_column : (f : ℕ → Option ℕ) (n : ℕ) (ts : Tables) (k : ℕ) (t : List ℕ × TableEntry) (u : Typed) → slice_get ts k ≡ Some t → property_in (shape_at t) (f (n + k)) ≡ Some u → Contains (columns_from f n ts) u
has_column f n [] k t u h e = absurd (none_is t h)
has_column f n (s ∷ ts) zero t u h e =
    let same : s ≡ t = some_is s t h in
    let first : n ≡ n + 0 = omega arith in
    let own : property_in (shape_at s) (f n) ≡ Some u = ap (λ x. property_in (shape_at x) (f n)) same ∙ ap (λ i. property_in (shape_at t) (f i)) first ∙ e in
    subst (λ o. Contains (cons_option o (columns_from f (n + 1) ts)) u) (sym own) (in_here u (columns_from f (n + 1) ts) u refl)
has_column f n (s ∷ ts) (suc k) t u h e =
    let next : (n + 1) + k ≡ n + suc k = omega arith in
    in_rest (property_in (shape_at s) (f n)) (columns_from f (n + 1) ts) u (has_column f (n + 1) ts k t u h (ap (λ i. property_in (shape_at t) (f i)) next ∙ e))

-- A SOUND GRAPH

edge_elements : (tables : Tables) (g : GraphEntry) (es : List EdgeEntry) → Each (IsSoundEdge tables g) es → Each (IsSoundElement tables) (map (λ (e : EdgeEntry). e.element) es)
edge_elements tables g [] s = tt
edge_elements tables g (e ∷ es) s = (s.0.element, edge_elements tables g es s.1)

pub elements_sound : (tables : Tables) (g : GraphEntry) → IsSoundGraph tables g → Each (IsSoundElement tables) (elements_in g)
elements_sound tables g s = each_append (IsSoundElement tables) g.vertices (map (λ (e : EdgeEntry). e.element) g.edges) s.vertices (edge_elements tables g g.edges s.edges)

empty_sound : (tables : Tables) → IsSoundGraph tables (record { vertices = []; edges = [] })
empty_sound tables = record { vertices = tt; edges = tt; differ = tt; one_kind = λ p q a b e. absurd (in_nil p a) }

-- also where there is no such graph
pub graph_at_sound : (tables : Tables) (gs : Graphs) (n : ℕ) → Each (λ (g : List ℕ × GraphEntry). IsSoundGraph tables g.1) gs → IsSoundGraph tables (graph_in (slice_get gs n))
graph_at_sound tables [] n s = empty_sound tables
graph_at_sound tables (g ∷ gs) zero s = s.0
graph_at_sound tables (g ∷ gs) (suc n) s = graph_at_sound tables gs n s.1

row_property : (e : ElementEntry) (r : Row) → Contains (rows e) r → Contains (properties_in e) r.property
row_property e r c =
    let l = from_flat_map rows_of e.labels r c in
    let p = from_map (λ (q : PropertyEntry). record { label = l.0.name; property = q }) l.0.properties r l.2 in
    subst (λ (q : Row). Contains (properties_in e) q.property) p.2 (in_flat_map (λ (k : LabelEntry). k.properties) e.labels l.0 p.0 l.1 p.1)

-- the column of a property stands in the table of the element, and has its kind
column_stands : (tables : Tables) (e : ElementEntry) (t : List ℕ × TableEntry) (r : Row) → IsSoundElement tables e → slice_get tables e.table.0 ≡ Some t → Contains (rows e) r
    → property_in (shape_at t) (Some r.property.column) ≡ Some (typed r.property.kind)
column_stands tables e t r s stands c =
    let same : s.table ≡ t = some_is s.table t (sym s.stands ∙ stands) in
    let p : IsSoundProperty s.table.1.columns r.property = each_at (IsSoundProperty s.table.1.columns) (properties_in e) r.property s.properties (row_property e r c) in
    let there : slice_get t.1.columns r.property.column ≡ Some p.column = ap (λ (x : List ℕ × TableEntry). slice_get x.1.columns r.property.column) (sym same) ∙ p.stands in
    ap (option_map (λ (x : ColumnShape). typed x.kind)) (slice_get-map (λ (x : ColumnEntry). x.shape) t.1.columns r.property.column ∙ ap (option_map (λ (x : ColumnEntry). x.shape)) there)
    ∙ ap (λ (k : Kind). Some (typed k)) (sym p.kind)

module _ (tables : Tables) (g : GraphEntry) (s : IsSoundGraph tables g) (name : List ℕ) where
  abbrev is_called : Row → Bool
  is_called r = bytes_eq name r.property.name

  abbrev all_rows : List Row
  all_rows = flat_map rows (elements_in g)

  abbrev place_in : ℕ → Option ℕ
  place_in k = look.property_in (find (is_table (table_number k)) (elements_in g)) name

  graph_property : (r : Row) → Contains all_rows r → Contains (all_properties g) r.property
  graph_property r c =
      let e = from_flat_map rows (elements_in g) r c in
      in_flat_map properties_in (elements_in g) e.0 r.property e.1 (row_property e.0 r e.2)

  -- a name stands for each of its properties
  stands_for : (r : Row) → Contains all_rows r → is_called r ≡ true → property_of g name ≡ Some (typed r.property.kind)
  stands_for r c h =
      let f = item_found is_called all_rows r c h in
      let i = found_item is_called all_rows f.0 f.1 in
      let named : f.0.property.name ≡ r.property.name = sym (same_bytes name f.0.property.name i.1) ∙ same_bytes name r.property.name h in
      ap (option_map (λ (q : Row). typed q.property.kind)) f.1
      ∙ ap (λ (k : Kind). Some (typed k)) (s.one_kind f.0.property r.property (graph_property f.0 i.0) (graph_property r c) named)

  -- a column of the property is what the name stands for
  is_named : (k : ℕ) (t : List ℕ × TableEntry) (u : Typed) → slice_get tables k ≡ Some t → property_in (shape_at t) (place_in k) ≡ Some u → property_of g name ≡ Some u
  is_named k t u stands h = element (find (is_table (table_number k)) (elements_in g)) refl h
    where
      row : (e : ElementEntry) → Contains (elements_in g) e → e.table.0 ≡ k → (o : Option Row) → find is_called (rows e) ≡ o
          → property_in (shape_at t) (option_map (λ (r : Row). r.property.column) o) ≡ Some u → property_of g name ≡ Some u
      row e c same None f h = absurd (none_is u h)
      row e c same (Some r) f h =
          let i = found_item is_called (rows e) r f in
          let sound : IsSoundElement tables e = each_at (IsSoundElement tables) (elements_in g) e (elements_sound tables g s) c in
          let is : Some (typed r.property.kind) ≡ Some u = sym (column_stands tables e t r sound (ap (slice_get tables) same ∙ stands) i.0) ∙ h in
          stands_for r (in_flat_map rows (elements_in g) e r c i.0) i.1 ∙ is

      element : (o : Option ElementEntry) → find (is_table (table_number k)) (elements_in g) ≡ o → property_in (shape_at t) (look.property_in o name) ≡ Some u → property_of g name ≡ Some u
      element None f h = absurd (none_is u h)
      element (Some e) f h =
          let i = found_item (is_table (table_number k)) (elements_in g) e f in
          row e i.0 (eqb-true e.table.0 k i.1) (find is_called (rows e)) refl h

  -- where a name stands for something, a table has a column for it
  has_place : (u : Typed) → property_of g name ≡ Some u → (k : ℕ) × (t : List ℕ × TableEntry) × (v : Typed) × (slice_get tables k ≡ Some t) × (property_in (shape_at t) (place_in k) ≡ Some v)
  has_place u h = first (find is_called all_rows) refl h
    where
      first : (o : Option Row) → find is_called all_rows ≡ o → option_map (λ (q : Row). typed q.property.kind) o ≡ Some u
          → (k : ℕ) × (t : List ℕ × TableEntry) × (v : Typed) × (slice_get tables k ≡ Some t) × (property_in (shape_at t) (place_in k) ≡ Some v)
      first None f h = absurd (none_is u h)
      first (Some r) f h =
          let i = found_item is_called all_rows r f in
          let e = from_flat_map rows (elements_in g) r i.0 in
          let sound : IsSoundElement tables e.0 = each_at (IsSoundElement tables) (elements_in g) e.0 (elements_sound tables g s) e.1 in
          let k = e.0.table.0 in
          let x = item_found (is_table (table_number k)) (elements_in g) e.0 e.1 (eq-eqb k k refl) in
          let y = found_item (is_table (table_number k)) (elements_in g) x.0 x.1 in
          let number : x.0.table ≡ e.0.table = ap table_number (eqb-true x.0.table.0 k y.1) in
          let own : x.0 ≡ e.0 = one_item (λ (z : ElementEntry). z.table) (elements_in g) x.0 e.0 s.differ y.0 e.1 number in
          let q = item_found is_called (rows e.0) r e.2 i.1 in
          let p = found_item is_called (rows e.0) q.0 q.1 in
          let place : place_in k ≡ Some q.0.property.column =
          ap (λ o. look.property_in o name) (x.1 ∙ ap Some own) ∙ ap (option_map (λ (z : Row). z.property.column)) q.1 in
          (k, sound.table, typed q.0.property.kind, sound.stands, ap (property_in (shape_at sound.table)) place ∙ column_stands tables e.0 sound.table q.0 sound sound.stands p.0)

  -- a place that the property has in a table is that of a column
  place_stands : (k : ℕ) (t : List ℕ × TableEntry) (c : ℕ) → slice_get tables k ≡ Some t → place_in k ≡ Some c → (u : Typed) × (property_in (shape_at t) (Some c) ≡ Some u)
  place_stands k t c stands h = element (find (is_table (table_number k)) (elements_in g)) refl h
    where
      row : (e : ElementEntry) → Contains (elements_in g) e → e.table.0 ≡ k → (o : Option Row) → find is_called (rows e) ≡ o
          → option_map (λ (r : Row). r.property.column) o ≡ Some c → (u : Typed) × (property_in (shape_at t) (Some c) ≡ Some u)
      row e i same None f h = absurd (none_is c h)
      row e i same (Some r) f h =
          let m = found_item is_called (rows e) r f in
          let sound : IsSoundElement tables e = each_at (IsSoundElement tables) (elements_in g) e (elements_sound tables g s) i in
          (typed r.property.kind, ap (property_in (shape_at t)) (sym h) ∙ column_stands tables e t r sound (ap (slice_get tables) same ∙ stands) m.0)

      element : (o : Option ElementEntry) → find (is_table (table_number k)) (elements_in g) ≡ o → look.property_in o name ≡ Some c → (u : Typed) × (property_in (shape_at t) (Some c) ≡ Some u)
      element None f h = absurd (none_is c h)
      element (Some e) f h =
          let i = found_item (is_table (table_number k)) (elements_in g) e f in
          row e i.0 (eqb-true e.table.0 k i.1) (find is_called (rows e)) refl h

  abbrev own_columns : List Typed
  own_columns = columns_from place_in 0 tables

  pub all_are : Each (λ u. property_of g name ≡ Some u) own_columns
  all_are = each_column (λ u. property_of g name ≡ Some u) place_in 0 tables (λ k t u stands e. is_named k t u stands (ap (λ i. property_in (shape_at t) (place_in i)) (sym (zero-add k)) ∙ e))

  some_is_there : (u : Typed) → property_of g name ≡ Some u → own_columns ≡ [] → ⊥
  some_is_there u h none =
      let p = has_place u h in
      let c : Contains own_columns p.2 = has_column place_in 0 tables p.0 p.1 p.2 p.3 (ap (λ i. property_in (shape_at p.1) (place_in i)) (zero-add p.0) ∙ p.4) in
      in_nil p.2 (subst (λ xs. Contains xs p.2) none c)

-- KIND AND WIDTH

same_kind : (o : Option Typed) (us : List Typed) → Each (λ u. o ≡ Some u) us → ((u : Typed) → o ≡ Some u → us ≡ [] → ⊥) → first_kind us ≡ option_map (λ (t : Typed). t.kind) o
same_kind None [] e h = refl
same_kind (Some t) [] e h = absurd (h t refl refl)
same_kind o (u ∷ us) e h = sym (ap (option_map (λ (t : Typed). t.kind)) e.0)

none_wider : (t : Typed) (us : List Typed) → Each (λ u. Some t ≡ Some u) us → greatest_width us ≤ t.width
none_wider t [] e = omega arith
none_wider t (u ∷ us) e = let same : t.width ≡ u.width = ap (λ (x : Typed). x.width) (some_is t u e.0) in let rest = none_wider t us e.1 in omega (arith, same, rest)

same_width : (o : Option Typed) (us : List Typed) → Each (λ u. o ≡ Some u) us → ((u : Typed) → o ≡ Some u → us ≡ [] → ⊥) → greatest_width us ≡ width_named o
same_width None [] e h = refl
same_width (Some t) [] e h = absurd (h t refl refl)
same_width None (u ∷ us) e h = absurd (none_is u e.0)
same_width (Some t) (u ∷ us) e h =
    let same : t.width ≡ u.width = ap (λ (x : Typed). x.width) (some_is t u e.0) in
    let rest : greatest_width us ≤ t.width = none_wider t us e.1 in
    omega (arith, same, rest)

-- STANDING COLUMNS

pub below : {X : Type 0} (xs : List X) (i : ℕ) (x : X) → slice_get xs i ≡ Some x → i < length xs
below [] i x h = absurd (none_is x h)
below (y ∷ ys) zero x h = omega arith
below (y ∷ ys) (suc i) x h = let r = below ys i x h in omega arith

column_below : (t : TableShape) (c : ℕ) (u : Typed) → property_in t (Some c) ≡ Some u → c < length t.columns
column_below t c u h = go (slice_get t.columns c) refl h
  where
    go : (o : Option ColumnShape) → slice_get t.columns c ≡ o → option_map (λ (x : ColumnShape). typed x.kind) o ≡ Some u → c < length t.columns
    go None e k = absurd (none_is u k)
    go (Some x) e k = below t.columns c x e

stand_from : (f : ℕ → Option ℕ) (n : ℕ) (ts : Tables)
    → ((k : ℕ) (t : List ℕ × TableEntry) (c : ℕ) → slice_get ts k ≡ Some t → f (n + k) ≡ Some c → c < length (shape_at t).columns)
    → AllZip (λ (t : TableShape) place. IfSome place (λ c. c < length t.columns)) (table_shapes ts) (map f (range_with_len n (length ts)))
stand_from f n [] h = tt
stand_from f n (t ∷ ts) h = (own (f n) refl, stand_from f (n + 1) ts (λ k s c stands e. let next : n + suc k ≡ (n + 1) + k = omega arith in h (suc k) s c stands (ap f next ∙ e)))
  where
    own : (o : Option ℕ) → f n ≡ o → IfSome o (λ c. c < length (shape_at t).columns)
    own None e = tt
    own (Some c) e = let first : n + 0 ≡ n = omega arith in h 0 t c refl (ap f first ∙ e)

-- PROPERTIES OF A SOUND CATALOG

-- what a property's name has for each table, and for all of them
pub record IsOfName (d : Defined) (g : GraphNo) (name : List ℕ) : Type 0 where
  pub kind : first_kind (property_columns (table_shapes d.0) (columns_of d g name)) ≡ option_map (λ (t : Typed). t.kind) (property_of (graph_numbered d.1 g) name)
  pub width : greatest_width (property_columns (table_shapes d.0) (columns_of d g name)) ≡ width_named (property_of (graph_numbered d.1 g) name)
  pub property : IsProperty (table_shapes d.0) (columns_of d g name)

pub of_name : (d : Defined) (g : GraphNo) (name : List ℕ) → IsSound d → IsOfName d g name
of_name d g name sound =
    let entry : GraphEntry = graph_numbered d.1 g in
    let s : IsSoundGraph d.0 entry = graph_at_sound d.0 d.1 g.0 sound.graphs in
    let us : List Typed = property_columns (table_shapes d.0) (columns_of d g name) in
    let o : Option Typed = property_of entry name in
    let each : Each (λ u. o ≡ Some u) us = all_are d.0 entry s name in
    let there : (u : Typed) → o ≡ Some u → us ≡ [] → ⊥ = some_is_there d.0 entry s name in
    record {
      kind = same_kind o us each there;
      width = same_width o us each there;
      property = record {
        stand = stand_from (place_in d.0 entry s name) 0 d.0 (λ k t c stands e.
            let p = place_stands d.0 entry s name k t c stands (ap (place_in d.0 entry s name) (sym (zero-add k)) ∙ e) in
            column_below (shape_at t) c p.0 p.1);
        one_kind = λ a b x y. ap (λ (t : Typed). t.kind) (some_is a b (sym (each_at (λ u. o ≡ Some u) us a each x) ∙ each_at (λ u. o ≡ Some u) us b each y));
      };
    }
