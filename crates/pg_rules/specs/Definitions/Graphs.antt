-- Where CREATE PROPERTY GRAPH is refused: for each kind of fault its places (ISO/IEC 9075-16:2023, property graph definition).
use Rattle.std.specs.Prelude.{ℕ, Bool, true, false, not, ◌&&◌, ◌||◌, ◌==◌, nat_lt, is_some, List, [], ◌∷◌, ◌++◌, map, length, slice_get}
use Rattle.std.specs.declared.option.Option.{Option}
use Rattle.std.specs.declared.option.Option.TheVariants.{Some, None}
use Rattle.std.specs.Option.{option_map, option_to_list}
use Rattle.std.specs.List.{flat_map, list_any, find}
use Rattle.std.specs.Str.{bytes_eq}
use Rattle.pg_value.specs.declared.value.Kind.{Kind}
use Rattle.pg_ast.specs.declared.expr.Name.{Name}
use Rattle.pg_ast.specs.declared.define.PropDef.{PropDef}
use Rattle.pg_ast.specs.declared.define.Props.{Props}
use Rattle.pg_ast.specs.declared.define.Props.TheVariants as props
use Rattle.pg_ast.specs.declared.define.LabelDef.{LabelDef}
use Rattle.pg_ast.specs.declared.define.Labels.{Labels}
use Rattle.pg_ast.specs.declared.define.Labels.TheVariants as labels
use Rattle.pg_ast.specs.declared.define.VertexDef.{VertexDef}
use Rattle.pg_ast.specs.declared.define.EndDef.{EndDef}
use Rattle.pg_ast.specs.declared.define.EdgeDef.{EdgeDef}
use Rattle.pg_ast.specs.declared.define.GraphDef.{GraphDef}
use Rattle.pg_rules.specs.declared.entry.ColumnEntry.{ColumnEntry}
use Rattle.pg_rules.specs.declared.entry.PropertyEntry.{PropertyEntry}
use Rattle.pg_rules.specs.declared.entry.LabelEntry.{LabelEntry}
use Rattle.pg_rules.specs.declared.entry.ElementEntry.{ElementEntry}
use Rattle.pg_rules.specs.declared.entry.PlacedElement.{PlacedElement}
use Rattle.pg_rules.specs.declared.fault.DefineFault.{DefineFault}
use Rattle.pg_rules.specs.declared.fault.DefineFault.TheVariants as faults
use Rattle.pg_rules.specs.Catalog.{Tables, Defined}
use Rattle.pg_rules.specs.Catalog.LookUps.{table_in, column_place, columns_named, key_named}
use Rattle.pg_rules.specs.Places.{place_if, first_fault}
use Rattle.pg_rules.specs.Definitions.Tables.{repeats, member, beyond, is_defined}
use Rattle.pg_rules.specs.Definitions.Entries.{kind_at, elements_of}
use Rattle.pg_value.specs.Kinds.{same_kind}

-- A NAME THAT EXISTS, OR STANDS TWICE

abbrev pub vertex_names : List VertexDef → List Name
vertex_names vertices = map (λ v. v.table) vertices

abbrev pub edge_names : List EdgeDef → List Name
edge_names edges = map (λ e. e.table) edges

-- the element tables, the vertex tables first
abbrev pub element_names : GraphDef → List Name
element_names g = vertex_names g.vertices ++ edge_names g.edges

abbrev pub label_names : List LabelDef → List Name
label_names ls = map (λ l. l.name) ls

abbrev pub property_names : List PropDef → List Name
property_names ps = map (λ p. p.name) ps

-- two properties of one label
abbrev pub twice_listed : Props → List ℕ
twice_listed props.All = []
twice_listed (props.Listed ps) = repeats (property_names ps)

-- two labels of one element table, and two properties of one label
abbrev pub twice_labelled : Labels → List ℕ
twice_labelled (labels.Own ps) = twice_listed ps
twice_labelled (labels.Given ls) = repeats (label_names ls) ++ flat_map (λ l. twice_listed l.props) ls

abbrev pub name_taken : Bool → GraphDef → List ℕ
name_taken is_defined g = place_if is_defined g.name.at ++ (repeats (element_names g) ++
    (flat_map (λ v. twice_labelled v.labels) g.vertices ++ flat_map (λ e. twice_labelled e.labels) g.edges))

-- A TABLE THAT DOES NOT EXIST, OR A REFERENCED ONE THAT IS NO VERTEX TABLE OF THE GRAPH

abbrev pub no_such : Tables → Name → List ℕ
no_such tables n = place_if (not (is_some (table_in tables n.text))) n.at

abbrev pub no_vertex : Tables → List (List ℕ) → Name → List ℕ
no_vertex tables vertices n = place_if (not (is_some (table_in tables n.text)) || not (member n.text vertices)) n.at

abbrev pub edge_without_table : Tables → List (List ℕ) → EdgeDef → List ℕ
edge_without_table tables vertices e = no_such tables e.table ++ (no_vertex tables vertices e.source.table ++ no_vertex tables vertices e.dest.table)

abbrev pub vertex_texts : List VertexDef → List (List ℕ)
vertex_texts vertices = map (λ v. v.table.text) vertices

abbrev pub no_table : Tables → GraphDef → List ℕ
no_table tables g = flat_map (λ v. no_such tables v.table) g.vertices ++ flat_map (edge_without_table tables (vertex_texts g.vertices)) g.edges

-- A COLUMN THAT IS NOT IN ITS TABLE

-- the names that are no column
abbrev pub missing : List ColumnEntry → List Name → List ℕ
missing columns names = flat_map (λ n. place_if (not (is_some (column_place columns n.text))) n.at) names

abbrev pub missing_key : List ColumnEntry → Option (List Name) → List ℕ
missing_key columns None = []
missing_key columns (Some names) = missing columns names

abbrev pub column_names : List PropDef → List Name
column_names ps = map (λ p. p.column) ps

abbrev pub missing_listed : List ColumnEntry → Props → List ℕ
missing_listed columns props.All = []
missing_listed columns (props.Listed ps) = missing columns (column_names ps)

abbrev pub missing_labelled : List ColumnEntry → Labels → List ℕ
missing_labelled columns (labels.Own ps) = missing_listed columns ps
missing_labelled columns (labels.Given ls) = flat_map (λ l. missing_listed columns l.props) ls

-- in the KEY list and the properties of an element table
abbrev pub missing_element : Tables → Name → Option (List Name) → Labels → List ℕ
missing_element tables table key ls = missing_key (columns_named tables table.text) key ++ missing_labelled (columns_named tables table.text) ls

-- in SOURCE KEY or DESTINATION KEY, whose columns are the edge table's, and in its REFERENCES list
abbrev pub missing_end : Tables → Name → EndDef → List ℕ
missing_end tables table end = missing (columns_named tables table.text) end.columns ++ missing (columns_named tables end.table.text) end.target

abbrev pub missing_edge : Tables → EdgeDef → List ℕ
missing_edge tables e = missing_element tables e.table e.key e.labels ++ (missing_end tables e.table e.source ++ missing_end tables e.table e.dest)

abbrev pub no_column : Tables → GraphDef → List ℕ
no_column tables g = flat_map (λ v. missing_element tables v.table v.key v.labels) g.vertices ++ flat_map (missing_edge tables) g.edges

-- KEY COLUMNS THAT DO NOT MATCH

-- as many names as places, each of which passes a test with its place
abbrev pub pairwise : (Name → ℕ → Bool) → List Name → List ℕ → Bool
pairwise test [] [] = true
pairwise test [] (p ∷ ps) = false
pairwise test (n ∷ ns) [] = false
pairwise test (n ∷ ns) (p ∷ ps) = test n p && pairwise test ns ps

abbrev pub is_place : Option ℕ → ℕ → Bool
is_place None p = false
is_place (Some q) p = q == p

-- the name is that of the column at a place
abbrev pub is_column_at : List ColumnEntry → Name → ℕ → Bool
is_column_at columns n place = is_place (column_place columns n.text) place

abbrev pub has_kind : List ColumnEntry → Option ℕ → Kind → Bool
has_kind columns None kind = false
has_kind columns (Some place) kind = same_kind (kind_at columns place) kind

-- the named column has the kind of a column of another table
abbrev pub fits_column : List ColumnEntry → List ColumnEntry → Name → ℕ → Bool
fits_column columns others n place = has_kind columns (column_place columns n.text) (kind_at others place)

-- the names are the columns of the primary key of a table, in its order
abbrev pub is_key : Tables → Name → List Name → Bool
is_key tables table names = pairwise (is_column_at (columns_named tables table.text)) names (key_named tables table.text)

abbrev pub key_fits : Tables → Name → Option (List Name) → Bool
key_fits tables table None = true
key_fits tables table (Some names) = is_key tables table names

-- the referenced columns are the primary key, and the edge table's columns are as many and of those kinds
abbrev pub end_fits : Tables → Name → EndDef → Bool
end_fits tables table end =
    is_key tables end.table end.target &&
    pairwise (fits_column (columns_named tables table.text) (columns_named tables end.table.text)) end.columns (key_named tables end.table.text)

abbrev pub edge_fits : Tables → EdgeDef → Bool
edge_fits tables e = key_fits tables e.table e.key && (end_fits tables e.table e.source && end_fits tables e.table e.dest)

abbrev pub key_mismatch : Tables → GraphDef → List ℕ
key_mismatch tables g = flat_map (λ v. place_if (not (key_fits tables v.table v.key)) v.table.at) g.vertices ++
    flat_map (λ e. place_if (not (edge_fits tables e)) e.table.at) g.edges

-- LABELS AND PROPERTIES THAT DO NOT AGREE, JUDGED ON THE ELEMENT TABLES AS THEY WOULD BE DEFINED

-- a property under a label
pub record Row : Type 0 where
  pub label : List ℕ
  pub property : PropertyEntry

abbrev pub rows_of : LabelEntry → List Row
rows_of l = map (λ p. record { label = l.name; property = p }) l.properties

-- all properties of an element table, label by label
abbrev pub rows : ElementEntry → List Row
rows e = flat_map rows_of e.labels

abbrev pub labels_in : ElementEntry → List (List ℕ)
labels_in e = map (λ l. l.name) e.labels

-- the same property, by name and kind, under the same label
abbrev pub is_row : Row → Row → Bool
is_row r q = bytes_eq r.label q.label && (bytes_eq r.property.name q.property.name && same_kind r.property.kind q.property.kind)

abbrev pub has_row : List Row → Row → Bool
has_row qs r = list_any (is_row r) qs

-- under a label of both, the second has a property that the first has not
abbrev pub lacks : ElementEntry → ElementEntry → Bool
lacks e f = list_any (λ r. member r.label (labels_in e) && not (has_row (rows e) r)) (rows f)

-- a label of both has other property names or kinds
abbrev pub differ : ElementEntry → ElementEntry → Bool
differ e f = lacks e f || lacks f e

-- of a pair of element tables that meets a test, the later
abbrev pub at_if : (ElementEntry → ElementEntry → Bool) → ElementEntry → PlacedElement → List ℕ
at_if test e f = place_if (test e f.element) f.at

abbrev pub later_of : (ElementEntry → ElementEntry → Bool) → List PlacedElement → List ℕ
later_of test [] = []
later_of test (e ∷ es) = flat_map (at_if test e.element) es ++ later_of test es

-- the column that a property name has first in some rows
abbrev pub first_column : List Row → List ℕ → Option ℕ
first_column rs name = option_map (λ r. r.property.column) (find (λ r. bytes_eq name r.property.name) rs)

-- a property name means two columns: one is not the first
abbrev pub two_columns : List Row → Bool
two_columns rs = list_any (λ r. not (is_place (first_column rs r.property.name) r.property.column)) rs

abbrev pub label_mismatch : List PlacedElement → List ℕ
label_mismatch es = later_of differ es ++ flat_map (λ e. place_if (two_columns (rows e.element)) e.at) es

abbrev pub has_other_kind : List Row → Row → Bool
has_other_kind qs r = list_any (λ q. bytes_eq r.property.name q.property.name && not (same_kind r.property.kind q.property.kind)) qs

-- a property name of both has two kinds
abbrev pub clash : ElementEntry → ElementEntry → Bool
clash e f = list_any (has_other_kind (rows e)) (rows f)

abbrev pub type_mismatch : List PlacedElement → List ℕ
type_mismatch es = later_of clash es

-- NUMBERS THAT ARE EXCEEDED

abbrev pub ninth_of : List LabelDef → List ℕ
ninth_of ls = option_to_list (option_map (λ l. l.at) (slice_get ls 8))

abbrev pub ninth_label : Labels → List ℕ
ninth_label (labels.Own ps) = []
ninth_label (labels.Given ls) = ninth_of ls

-- the 17th graph, the 33rd element table, and the 9th label of one
abbrev pub limit : Bool → GraphDef → List ℕ
limit is_full g = place_if is_full g.at ++ (beyond 32 (element_names g) ++
    (flat_map (λ v. ninth_label v.labels) g.vertices ++ flat_map (λ e. ninth_label e.labels) g.edges))

abbrev pub is_full : Defined → Bool
is_full d = nat_lt 15 (length d.1)

-- THE KINDS IN ORDER, WITH THEIR PLACES

-- the kinds that are judged on the element tables as they would be defined, and the limits
abbrev pub labels_fault : Defined → GraphDef → Option DefineFault
labels_fault d g = first_fault (
    (faults.LabelMismatch, label_mismatch (elements_of d.0 g)) ∷
    (faults.TypeMismatch, type_mismatch (elements_of d.0 g)) ∷
    (faults.Limit, limit (is_full d) g) ∷ [])

abbrev pub graph_fault : Defined → GraphDef → Option DefineFault
graph_fault d g = first_fault (
    (faults.NameTaken, name_taken (is_defined d g.name.text) g) ∷
    (faults.NoTable, no_table d.0 g) ∷
    (faults.NoColumn, no_column d.0 g) ∷
    (faults.KeyMismatch, key_mismatch d.0 g) ∷
    (faults.LabelMismatch, label_mismatch (elements_of d.0 g)) ∷
    (faults.TypeMismatch, type_mismatch (elements_of d.0 g)) ∷
    (faults.Limit, limit (is_full d) g) ∷ [])
