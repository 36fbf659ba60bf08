-- A sound catalog: the columns and tables that its tables and graphs name stand, and in a graph a property has one kind.
use Rattle.std.specs.Prelude.{ℕ, ◌≡◌, ◌≤◌, ◌<◌, true, List, map, length, flat_map, slice_get, Contains, Some}
use Rattle.std.specs.List.{AllZip}
use Rattle.pg_keyed.specs.Lists.{Each}
use Rattle.pg_value.specs.declared.shape.TableNo.{TableNo}
use Rattle.pg_value.specs.declared.shape.GraphNo.{GraphNo}
use Rattle.pg_meaning.specs.Bindings.{Distinct}
use Rattle.pg_meaning.specs.Sound.Graphs as sound
use Rattle.pg_rules.specs.declared.entry.ColumnEntry.{ColumnEntry}
use Rattle.pg_rules.specs.declared.entry.TableEntry.{TableEntry}
use Rattle.pg_rules.specs.declared.entry.PropertyEntry.{PropertyEntry}
use Rattle.pg_rules.specs.declared.entry.ElementEntry.{ElementEntry}
use Rattle.pg_rules.specs.declared.entry.EdgeEntry.{EdgeEntry}
use Rattle.pg_rules.specs.declared.entry.GraphEntry.{GraphEntry}
use Rattle.pg_rules.specs.Catalog.{Tables, Defined, IsSmall}
use Rattle.pg_rules.specs.Catalog.GraphLookUps.{elements_in, graph_shape}
use Rattle.pg_rules.specs.Catalog.Shapes.{shapes}

-- TABLES

-- a key column stands in its table, and is NOT NULL
pub record IsKeyColumn (columns : List ColumnEntry) (c : ℕ) : Type 0 where
  pub column : ColumnEntry
  pub stands : slice_get columns c ≡ Some column
  pub not_null : column.shape.not_null ≡ true

-- at most four key columns, which differ
pub record IsSoundTable (t : TableEntry) : Type 0 where
  pub short : length t.key ≤ 4
  pub differ : Distinct t.key
  pub key : Each (IsKeyColumn t.columns) t.key

-- ELEMENT TABLES

-- a property names a column that stands, and has its kind
pub record IsSoundProperty (columns : List ColumnEntry) (p : PropertyEntry) : Type 0 where
  pub column : ColumnEntry
  pub stands : slice_get columns p.column ≡ Some column
  pub kind : p.kind ≡ column.shape.kind

abbrev pub properties_in : ElementEntry → List PropertyEntry
properties_in e = flat_map (λ l. l.properties) e.labels

-- its table stands, with its properties, and in it a property's name means one column
pub record IsSoundElement (tables : Tables) (e : ElementEntry) : Type 0 where
  pub table : List ℕ × TableEntry
  pub stands : slice_get tables e.table.0 ≡ Some table
  pub properties : Each (IsSoundProperty table.1.columns) (properties_in e)
  pub one_column : (p q : PropertyEntry) → Contains (properties_in e) p → Contains (properties_in e) q → p.name ≡ q.name → p.column ≡ q.column

-- EDGE TABLES

-- a column has the kind of a key column of another table
pub record IsOfKey (columns others : List ColumnEntry) (c k : ℕ) : Type 0 where
  pub column : ColumnEntry
  pub key_column : ColumnEntry
  pub stands : slice_get columns c ≡ Some column
  pub key_stands : slice_get others k ≡ Some key_column
  pub same_kind : column.shape.kind ≡ key_column.shape.kind

-- an end is a vertex table of the graph, and is named by as many columns as its key has, of the kinds of its key
pub record IsSoundEnd (tables : Tables) (g : GraphEntry) (columns : List ColumnEntry) (end : TableNo) (places : List ℕ) : Type 0 where
  pub vertex : Contains (map (λ v. v.table) g.vertices) end
  pub table : List ℕ × TableEntry
  pub stands : slice_get tables end.0 ≡ Some table
  pub names_key : AllZip (IsOfKey columns table.1.columns) places table.1.key

pub record IsSoundEdge (tables : Tables) (g : GraphEntry) (e : EdgeEntry) : Type 0 where
  pub element : IsSoundElement tables e.element
  pub source : IsSoundEnd tables g element.table.1.columns e.source e.source_columns
  pub dest : IsSoundEnd tables g element.table.1.columns e.dest e.dest_columns

-- GRAPHS

abbrev pub all_properties : GraphEntry → List PropertyEntry
all_properties g = flat_map properties_in (elements_in g)

-- no table stands in it twice, and a property's name has one kind
pub record IsSoundGraph (tables : Tables) (g : GraphEntry) : Type 0 where
  pub vertices : Each (IsSoundElement tables) g.vertices
  pub edges : Each (IsSoundEdge tables g) g.edges
  pub differ : Distinct (map (λ e. e.table) (elements_in g))
  pub one_kind : (p q : PropertyEntry) → Contains (all_properties g) p → Contains (all_properties g) q → p.name ≡ q.name → p.kind ≡ q.kind

pub record IsSound (d : Defined) : Type 0 where
  pub tables : Each (λ t. IsSoundTable t.1) d.0
  pub graphs : Each (λ g. IsSoundGraph d.0 g.1) d.1

-- THE LAW

-- the shapes of a sound catalog are sound, and so is the shape of each of its graphs
pub record ShapesAreSound : Type 0 where
  pub tables : (d : Defined) → IsSound d → IsSmall d → sound.AreSoundShapes (shapes d)
  pub graphs : (d : Defined) (g : GraphNo) → IsSound d → g.0 < length d.1 → sound.IsSoundGraph (shapes d) (graph_shape d g)
