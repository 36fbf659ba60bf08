-- Sound shapes: keys, edge tables and graphs whose columns and tables stand. A search over a graph may rely on this.
use Rattle.std.specs.Prelude.{ℕ, ◌≡◌, ◌≤◌, ◌<◌, true, List, ◌++◌, length, slice_get, Contains, Some}
use Rattle.std.specs.List.{AllZip}
use Rattle.pg_keyed.specs.Lists.{Each}
use Rattle.pg_value.specs.declared.shape.EdgeNo.{EdgeNo}
use Rattle.pg_value.specs.declared.shape.ColumnShape.{ColumnShape}
use Rattle.pg_value.specs.declared.shape.TableShape.{TableShape}
use Rattle.pg_value.specs.declared.shape.EdgeShape.{EdgeShape}
use Rattle.pg_value.specs.declared.shape.Shapes.{Shapes}
use Rattle.pg_value.specs.declared.shape.GraphShape.{GraphShape}
use Rattle.pg_meaning.specs.Bindings.{Distinct}
use Rattle.pg_meaning.specs.HopQuery.{edge_tables}

-- TABLES

-- a key column stands in its table, and is never NULL
pub record IsKeyColumn (table : TableShape) (c : ℕ) : Type 0 where
  pub column : ColumnShape
  pub stands : slice_get table.columns c ≡ Some column
  pub not_null : column.not_null ≡ true

-- at most 32 columns, and at most 4 key columns, which differ
pub record IsSoundTable (table : TableShape) : Type 0 where
  pub few : length table.columns ≤ 32
  pub short : length table.key ≤ 4
  pub differ : Distinct table.key
  pub key : Each (IsKeyColumn table) table.key

-- EDGE TABLES

-- a column of a table has the kind of a key column of another
pub record IsOfKey (table other : TableShape) (c k : ℕ) : Type 0 where
  pub column : ColumnShape
  pub key_column : ColumnShape
  pub stands : slice_get table.columns c ≡ Some column
  pub key_stands : slice_get other.columns k ≡ Some key_column
  pub same_kind : column.kind ≡ key_column.kind

-- as many columns as the other table's key has, of its kinds
abbrev pub NamesKey : TableShape → TableShape → List ℕ → Type 0
NamesKey table other columns = AllZip (IsOfKey table other) columns other.key

-- the table stands, and so do those of its ends, whose keys its columns name
pub record IsSoundEdge (tables : List TableShape) (e : EdgeShape) : Type 0 where
  pub table : TableShape
  pub source : TableShape
  pub dest : TableShape
  pub table_stands : slice_get tables e.table.0 ≡ Some table
  pub source_stands : slice_get tables e.source.0 ≡ Some source
  pub dest_stands : slice_get tables e.dest.0 ≡ Some dest
  pub source_key : NamesKey table source e.source_columns
  pub dest_key : NamesKey table dest e.dest_columns

-- at most 64 tables
pub record AreSoundShapes (shapes : Shapes) : Type 0 where
  pub few : length shapes.tables ≤ 64
  pub tables : Each IsSoundTable shapes.tables
  pub edges : Each (IsSoundEdge shapes.tables) shapes.edges

-- GRAPHS

-- the edge table stands, and its ends are vertex tables of the graph
pub record IsEdgeTable (shapes : Shapes) (g : GraphShape) (e : EdgeNo) : Type 0 where
  pub shape : EdgeShape
  pub stands : slice_get shapes.edges e.0 ≡ Some shape
  pub source : Contains g.vertices shape.source
  pub dest : Contains g.vertices shape.dest

-- its vertex tables and its edge tables stand, and no table stands in it twice
pub record IsSoundGraph (shapes : Shapes) (g : GraphShape) : Type 0 where
  pub vertices : Each (λ t. t.0 < length shapes.tables) g.vertices
  pub edges : Each (IsEdgeTable shapes g) g.edges
  pub differ : Distinct (g.vertices ++ edge_tables shapes g)
