-- The graph that tables hold (ISO/IEC 9075-16:2023): its vertices are the rows of its vertex tables, and its edges
-- those rows of its edge tables whose end columns hold no NULL and name vertices. Other rows of an edge table are no edges.
use Rattle.std.specs.Prelude.{ℕ, Bool, cond, ◌&&◌, not, List, [], map, slice_get, slice_index_or}
use Rattle.std.specs.declared.option.Option.{Option}
use Rattle.std.specs.declared.option.Option.TheVariants.{Some, None}
use Rattle.std.specs.Option.{unwrap_or, option_map}
use Rattle.std.specs.List.{flat_map, list_any, list_all, filter_map}
use Rattle.std.specs.Ordering.{is_eq}
use Rattle.pg_value.specs.declared.value.Value.{Value}
use Rattle.pg_value.specs.declared.value.Value.TheVariants.{Null}
use Rattle.pg_value.specs.declared.row.Row.{Row}
use Rattle.pg_value.specs.declared.shape.ElemId.{ElemId}
use Rattle.pg_value.specs.declared.shape.TableNo.{TableNo}
use Rattle.pg_value.specs.declared.shape.EdgeShape.{EdgeShape}
use Rattle.pg_value.specs.declared.shape.Shapes.{Shapes}
use Rattle.pg_value.specs.declared.shape.GraphShape.{GraphShape}
use Rattle.pg_value.specs.Compare.{is_null}
use Rattle.pg_value.specs.Order.{Place, place_cmp}
use Rattle.pg_value.specs.Tables.{Stored, Tables, held_in, stored_at, pick}

-- an element is named by its table and key
abbrev pub elem_of : Stored → ElemId
elem_of s = record { table = s.table; key = s.key }

abbrev pub elem_place : ElemId → Place
elem_place e = (e.table.0, e.key.values)

abbrev pub same_elem : ElemId → ElemId → Bool
same_elem a b = is_eq (place_cmp (elem_place a) (elem_place b))

abbrev pub vertices : GraphShape → Tables → List ElemId
vertices g tables = flat_map (λ t. map elem_of (held_in t tables)) g.vertices

-- an edge, with the vertices at its ends
pub record Edge : Type 0 where
  pub elem : ElemId
  pub source : ElemId
  pub dest : ElemId

-- the vertex that some columns of a row name: none of them NULL, and a vertex of that table and key is there
abbrev pub end_of : List ElemId → TableNo → List ℕ → Row → Option ElemId
end_of vs t columns r =
    let values = pick columns r.values in
    let elem : ElemId = record { table = t; key = record { values = values } } in
    cond (list_all (λ v. not (is_null v)) values && list_any (same_elem elem) vs) (Some elem) None

abbrev pub edge_between : Option ElemId → Option ElemId → ElemId → Option Edge
edge_between (Some a) (Some b) e = Some (record { elem = e; source = a; dest = b })
edge_between None b e = None
edge_between (Some a) None e = None

-- the edge that a row of an edge table is, if it is one
abbrev pub edge_of : List ElemId → EdgeShape → Stored → Option Edge
edge_of vs shape s = edge_between (end_of vs shape.source shape.source_columns s.row) (end_of vs shape.dest shape.dest_columns s.row) (elem_of s)

abbrev pub edges_in : List ElemId → Tables → EdgeShape → List Edge
edges_in vs tables shape = filter_map (edge_of vs shape) (held_in shape.table tables)

abbrev pub edges : Shapes → GraphShape → Tables → List Edge
edges shapes g tables = flat_map (λ e. unwrap_or (option_map (edges_in (vertices g tables) tables) (slice_get shapes.edges e.0)) []) g.edges

-- the value of an element in a column, NULL where it has none there
abbrev pub value_in : Option Stored → Option ℕ → Value
value_in None c = Null
value_in (Some s) None = Null
value_in (Some s) (Some c) = slice_index_or s.row.values c Null

-- the value of an element in the column that is given for its table, NULL where none is
abbrev pub property : Tables → ElemId → List (Option ℕ) → Value
property tables e columns = value_in (stored_at (elem_place e) tables) (slice_index_or columns e.table.0 None)
