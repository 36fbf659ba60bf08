-- What the look-ups of a catalog give of its graphs.
use Rattle.std.specs.Prelude.{is_some, ℕ, ◌≡◌, ◌+◌, ◌==◌, Bool, true, false, cond, List, [], ◌∷◌, ◌++◌, map, filter, take, length, slice_get}
use Rattle.std.specs.declared.option.Option.{Option}
use Rattle.std.specs.declared.option.Option.TheVariants.{Some, None}
use Rattle.std.specs.Int.{bit_at}
use Rattle.std.specs.List.{flat_map, list_any, find}
use Rattle.pg_value.specs.declared.shape.TableNo.{TableNo}
use Rattle.pg_value.specs.declared.shape.GraphNo.{GraphNo}
use Rattle.pg_value.specs.declared.shape.EdgeNo.{EdgeNo}
use Rattle.pg_value.specs.declared.shape.GraphShape.{GraphShape}
use Rattle.pg_rules.specs.declared.entry.ElementEntry.{ElementEntry}
use Rattle.pg_rules.specs.declared.entry.EdgeEntry.{EdgeEntry}
use Rattle.pg_rules.specs.declared.entry.GraphEntry.{GraphEntry}
use Rattle.pg_rules.specs.Catalog.{Graphs, Defined}
use Rattle.pg_rules.specs.Definitions.Graphs.{rows, first_column, labels_in}
use Rattle.pg_ast.specs.Trees.{LabelTree}
use Rattle.pg_meaning.specs.LabelSets.{admits}

abbrev pub graph_in : Option (List ℕ × GraphEntry) → GraphEntry
graph_in None = record { vertices = []; edges = [] }
graph_in (Some e) = e.1

-- a graph, empty where there is no such graph
abbrev pub graph_numbered : Graphs → GraphNo → GraphEntry
graph_numbered graphs g = graph_in (slice_get graphs g.0)

-- THE TABLES OF A GRAPH

-- how many edge tables the graphs before it have
abbrev pub first_edge : Graphs → ℕ → ℕ
first_edge graphs g = length (flat_map (λ e. e.1.edges) (take g graphs))

-- as many numbers as edge tables, from this one on
abbrev pub numbers_from : ℕ → List EdgeEntry → List EdgeNo
numbers_from n [] = []
numbers_from n (e ∷ es) = record { 0 = n } ∷ numbers_from (n + 1) es

abbrev pub shape_of : ℕ → GraphEntry → GraphShape
shape_of first g = record { vertices = map (λ e. e.table) g.vertices; edges = numbers_from first g.edges }

abbrev pub graph_shape : Defined → GraphNo → GraphShape
graph_shape d g = shape_of (first_edge d.1 g.0) (graph_numbered d.1 g)

-- A PROPERTY

abbrev pub elements_in : GraphEntry → List ElementEntry
elements_in g = g.vertices ++ map (λ e. e.element) g.edges

abbrev pub is_table : TableNo → ElementEntry → Bool
is_table t e = e.table.0 == t.0

abbrev pub property_in : Option ElementEntry → List ℕ → Option ℕ
property_in None name = None
property_in (Some e) name = first_column (rows e) name

-- the column that the element table has for a property under any of its labels
abbrev pub property_at : Defined → GraphNo → TableNo → List ℕ → Option ℕ
property_at d g t name = property_in (find (is_table t) (elements_in (graph_numbered d.1 g))) name

-- A SET OF TABLES

-- the vertex tables or the edge tables
abbrev pub of_sort : GraphEntry → Bool → List ElementEntry
of_sort g edges = cond edges (map (λ e. e.element) g.edges) g.vertices

-- the tables whose labels meet a label expression
abbrev pub admitted : List ElementEntry → LabelTree → List ℕ
admitted es x = map (λ e. e.table.0) (filter (λ e. admits (labels_in e) x) es)

abbrev pub tables_of : Defined → GraphNo → Bool → LabelTree → List ℕ
tables_of d g edges x = admitted (of_sort (graph_numbered d.1 g) edges) x

abbrev pub bit : Bool → ℕ
bit true = 1
bit false = 0

abbrev pub has_number : ℕ → List ℕ → Bool
has_number t ts = list_any (λ u. u == t) ts

-- bit t is set exactly where t is among these
abbrev pub IsSetOf : ℕ → List ℕ → Type 0
IsSetOf set ts = (t : ℕ) → bit_at set t ≡ bit (has_number t ts)

-- an element table of the graph has a column for the property
abbrev pub has_property : GraphEntry → List ℕ → Bool
has_property g name = list_any (λ e. is_some (property_in (Some e) name)) (elements_in g)
