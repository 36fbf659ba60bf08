-- What a property graph's definition defines: its element tables with their labels and properties (ISO/IEC 9075-16:2023).
use Rattle.std.specs.Prelude.{ℕ, ◌+◌, List, [], ◌∷◌, ◌++◌, map, slice_get}
use Rattle.std.specs.declared.option.Option.{Option}
use Rattle.std.specs.declared.option.Option.TheVariants.{Some, None}
use Rattle.std.specs.Option.{unwrap_or}
use Rattle.pg_value.specs.declared.shape.TableNo.{TableNo}
use Rattle.pg_value.specs.declared.value.Kind.{Kind}
use Rattle.pg_value.specs.declared.value.Kind.TheVariants as kinds
use Rattle.pg_ast.specs.declared.expr.Name.{Name}
use Rattle.pg_ast.specs.declared.define.PropDef.{PropDef}
use Rattle.pg_ast.specs.declared.define.Props.{Props}
use Rattle.pg_ast.specs.declared.define.Props.TheVariants as props
use Rattle.pg_ast.specs.declared.define.LabelDef.{LabelDef}
use Rattle.pg_ast.specs.declared.define.Labels.{Labels}
use Rattle.pg_ast.specs.declared.define.Labels.TheVariants as labels
use Rattle.pg_ast.specs.declared.define.VertexDef.{VertexDef}
use Rattle.pg_ast.specs.declared.define.EdgeDef.{EdgeDef}
use Rattle.pg_ast.specs.declared.define.GraphDef.{GraphDef}
use Rattle.pg_rules.specs.declared.entry.ColumnEntry.{ColumnEntry}
use Rattle.pg_rules.specs.declared.entry.PropertyEntry.{PropertyEntry}
use Rattle.pg_rules.specs.declared.entry.LabelEntry.{LabelEntry}
use Rattle.pg_rules.specs.declared.entry.ElementEntry.{ElementEntry}
use Rattle.pg_rules.specs.declared.entry.EdgeEntry.{EdgeEntry}
use Rattle.pg_rules.specs.declared.entry.GraphEntry.{GraphEntry}
use Rattle.pg_rules.specs.declared.entry.PlacedElement.{PlacedElement}
use Rattle.pg_rules.specs.Catalog.{Tables, Defined}
use Rattle.pg_rules.specs.Catalog.LookUps.{table_in, table_number, columns_named}
use Rattle.pg_rules.specs.Definitions.Tables.{place_of}

abbrev pub kind_in : Option ColumnEntry → Kind
kind_in None = kinds.Int
kind_in (Some c) = c.shape.kind

-- the kind of the column at a place
abbrev pub kind_at : List ColumnEntry → ℕ → Kind
kind_at columns place = kind_in (slice_get columns place)

-- each column as a property of its own name, the first at this place
abbrev pub all_from : ℕ → List ColumnEntry → List PropertyEntry
all_from place [] = []
all_from place (c ∷ cs) = record { name = c.name; column = place; kind = c.shape.kind } ∷ all_from (place + 1) cs

abbrev pub property_of : List ColumnEntry → PropDef → PropertyEntry
property_of columns p = record { name = p.name.text; column = place_of columns p.column; kind = kind_at columns (place_of columns p.column) }

abbrev pub properties_of : List ColumnEntry → Props → List PropertyEntry
properties_of columns props.All = all_from 0 columns
properties_of columns (props.Listed ps) = map (property_of columns) ps

abbrev pub label_of : List ColumnEntry → LabelDef → LabelEntry
label_of columns l = record { name = l.name.text; properties = properties_of columns l.props }

-- without a LABEL clause the table's own name is the label
abbrev pub labels_of : List ColumnEntry → Name → Labels → List LabelEntry
labels_of columns table (labels.Own ps) = record { name = table.text; properties = properties_of columns ps } ∷ []
labels_of columns table (labels.Given ls) = map (label_of columns) ls

-- the number of the table of a name
abbrev pub number_of : Tables → List ℕ → TableNo
number_of tables name = table_number (unwrap_or (table_in tables name) 0)

abbrev pub element_of : Tables → Name → Labels → ElementEntry
element_of tables table ls = record { table = number_of tables table.text; labels = labels_of (columns_named tables table.text) table ls }

abbrev pub vertex_of : Tables → VertexDef → ElementEntry
vertex_of tables v = element_of tables v.table v.labels

abbrev pub edge_element : Tables → EdgeDef → ElementEntry
edge_element tables e = element_of tables e.table e.labels

-- the places of some columns in the table of a name
abbrev pub places_in : Tables → Name → List Name → List ℕ
places_in tables table names = map (place_of (columns_named tables table.text)) names

abbrev pub edge_of : Tables → EdgeDef → EdgeEntry
edge_of tables e = record {
  element = edge_element tables e;
  source = number_of tables e.source.table.text;
  source_columns = places_in tables e.table e.source.columns;
  dest = number_of tables e.dest.table.text;
  dest_columns = places_in tables e.table e.dest.columns;
}

abbrev pub graph_of : Tables → GraphDef → GraphEntry
graph_of tables g = record { vertices = map (vertex_of tables) g.vertices; edges = map (edge_of tables) g.edges }

abbrev pub placed_vertex : Tables → VertexDef → PlacedElement
placed_vertex tables v = record { at = v.table.at; element = vertex_of tables v }

abbrev pub placed_edge : Tables → EdgeDef → PlacedElement
placed_edge tables e = record { at = e.table.at; element = edge_element tables e }

-- all element tables of a graph as they are written, the vertex tables first
abbrev pub elements_of : Tables → GraphDef → List PlacedElement
elements_of tables g = map (placed_vertex tables) g.vertices ++ map (placed_edge tables) g.edges

-- the graph stands behind the others
abbrev pub with_graph : Defined → GraphDef → Defined
with_graph d g = (d.0, d.1 ++ (g.name.text, graph_of d.0 g) ∷ [])
