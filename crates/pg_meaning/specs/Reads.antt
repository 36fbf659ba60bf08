-- What a view of a snapshot reads: the row of a key, the edges of an edge table at a vertex, and the elements of some tables; and how walks
-- and selections rest on these reads.
use Rattle.std.specs.Prelude.{ℕ, ◌==◌, ◌&&◌, ◌⊎◌, ◌↔◌, cond, not, is_some, List, [], map, filter, Contains, Option, Some, None, option_map, slice_get}
use Rattle.std.specs.Int.{bit_at}
use Rattle.std.specs.Option.{unwrap_or}
use Rattle.std.specs.List.{flat_map, list_all, filter_map}
use Rattle.pg_value.specs.declared.value.Dir.{Dir}
use Rattle.pg_value.specs.declared.value.Dir.TheVariants.{Out, In}
use Rattle.pg_value.specs.declared.row.Row.{Row}
use Rattle.pg_value.specs.declared.row.Key.{Key}
use Rattle.pg_value.specs.declared.shape.ElemId.{ElemId}
use Rattle.pg_value.specs.declared.shape.TableNo.{TableNo}
use Rattle.pg_value.specs.declared.shape.TableSet.{TableSet}
use Rattle.pg_value.specs.declared.shape.EdgeNo.{EdgeNo}
use Rattle.pg_value.specs.declared.shape.EdgeShape.{EdgeShape}
use Rattle.pg_value.specs.declared.shape.Shapes.{Shapes}
use Rattle.pg_value.specs.declared.shape.GraphShape.{GraphShape}
use Rattle.pg_value.specs.Compare.{is_null}
use Rattle.pg_value.specs.Tables.{Stored, Tables, IsInOrder, held_in, stored_at, pick}
use Rattle.pg_value.specs.Graph.{Edge, edge_between, elem_of, elem_place, same_elem}
use Rattle.pg_ast.specs.declared.pattern.Arrow.{Arrow}
use Rattle.pg_ast.specs.declared.pattern.Arrow.TheVariants.{Right, Left, Either}
use Rattle.pg_meaning.specs.declared.checked.CheckedPath.{CheckedPath}
use Rattle.pg_meaning.specs.Walks.{Graph, Hop, Leads, graph_of}
use Rattle.pg_meaning.specs.Bindings.{Binding, Distinct, Selected, SelectedFrom}
use Rattle.pg_meaning.specs.Sound.Graphs.{IsSoundGraph}

-- ROWS AND ELEMENTS

-- the row of a table with a key
abbrev pub row_at : Tables → TableNo → Key → Option Row
row_at tables t key = option_map (λ s. s.row) (stored_at (t.0, key.values) tables)

-- the rows of the tables of a set, in order of table and key
abbrev pub elements_of : Tables → TableSet → List ElemId
elements_of tables set = map elem_of (filter (λ s. bit_at set.0 s.table.0 == 1) tables)

-- NEIGHBOURS

-- the row that some columns of a row name: none of them NULL, and a row of that table and key is there
abbrev pub end_at : Tables → TableNo → List ℕ → Row → Option ElemId
end_at tables t columns row =
    let values = pick columns row.values in
    let elem : ElemId = record { table = t; key = record { values = values } } in
    cond (list_all (λ v. not (is_null v)) values && is_some (stored_at (elem_place elem) tables)) (Some elem) None

-- the edge that a row of an edge table is, if it is one
abbrev pub edge_at : Tables → EdgeShape → Stored → Option Edge
edge_at tables shape s = edge_between (end_at tables shape.source shape.source_columns s.row) (end_at tables shape.dest shape.dest_columns s.row) (elem_of s)

-- the edges of an edge table, in order of their keys
abbrev pub edges_at : Tables → EdgeShape → List Edge
edges_at tables shape = filter_map (edge_at tables shape) (held_in shape.table tables)

-- an edge from a vertex, where the vertex is at that end, and the vertex at the other end
abbrev pub over_edge : Dir → ElemId → Edge → Option Hop
over_edge Out v e = cond (same_elem e.source v) (Some (record { edge = e.elem; to = e.dest })) None
over_edge In v e = cond (same_elem e.dest v) (Some (record { edge = e.elem; to = e.source })) None

-- the edges of an edge table that have a vertex at that end, in order of their keys, each with the vertex at its other end
abbrev pub neighbours_of : Shapes → Tables → EdgeNo → Dir → ElemId → List Hop
neighbours_of shapes tables e dir v = unwrap_or (option_map (λ shape. filter_map (over_edge dir v) (edges_at tables shape)) (slice_get shapes.edges e.0)) []

-- WALKS GO OVER NEIGHBOURS

-- one of the graph's edge tables has the hop among the neighbours
abbrev pub IsNeighbour : Shapes → GraphShape → Tables → Dir → ElemId → Hop → Type 0
IsNeighbour shapes g tables dir v hop = (e : EdgeNo) × Contains g.edges e × Contains (neighbours_of shapes tables e dir v) hop

abbrev pub Reached : Shapes → GraphShape → Tables → Arrow → ElemId → Hop → Type 0
Reached shapes g tables Right v hop = IsNeighbour shapes g tables Out v hop
Reached shapes g tables Left v hop = IsNeighbour shapes g tables In v hop
Reached shapes g tables Either v hop = IsNeighbour shapes g tables Out v hop ⊎ IsNeighbour shapes g tables In v hop

-- over a sound graph an arrow leads over a hop exactly where the hop is among the neighbours at that end
abbrev pub HopsAreNeighbours : Type 0
HopsAreNeighbours = (shapes : Shapes) (g : GraphShape) (tables : Tables) → IsSoundGraph shapes g → IsInOrder tables → (arrow : Arrow) (v : ElemId) (hop : Hop)
    → Leads (graph_of shapes g tables) arrow v hop ↔ Reached shapes g tables arrow v hop

-- A SELECTION START BY START

-- what is selected from each vertex is together what is selected
abbrev pub SelectionsByStart : Type 0
SelectionsByStart = (g : Graph) (p : CheckedPath) (kept : ElemId → List Binding) → Distinct g.vertices
    → ((start : ElemId) → Contains g.vertices start → SelectedFrom g p start (kept start)) → Selected g p (flat_map kept g.vertices)
