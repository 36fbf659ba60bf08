-- A view of one list of rows for each table.
use Rattle.std.specs.Prelude.{ℕ, ◌≡◌, ◌+◌, ◌*◌, List, [], ◌∷◌, ◌++◌, length, slice_get, get_or}
use Rattle.std.specs.Option.{option_map, unwrap_or}
use Rattle.pg_chunks.specs.Digits.{digits}
use Rattle.pg_value.specs.declared.value.Dir.{Dir}
use Rattle.pg_value.specs.declared.row.Key.{Key}
use Rattle.pg_value.specs.declared.shape.TableNo.{TableNo}
use Rattle.pg_value.specs.declared.shape.EdgeNo.{EdgeNo}
use Rattle.pg_value.specs.declared.shape.EdgeShape.{EdgeShape}
use Rattle.pg_value.specs.declared.shape.Shapes.{Shapes}
use Rattle.pg_value.specs.Tables.{Stored, Tables, IsInOrder, held_in, FitTables}
use Rattle.pg_meaning.specs.Sound.Graphs.{AreSoundShapes}
use Rattle.pg_adj.specs.Entries.{entries_at}
use Rattle.pg_view.specs.Neighbours.{end_table, other_table}
use Rattle.pg_view.specs.RowEnds.{all_ends}

-- the rows of all lists, one list after another
abbrev pub joined : List (List Stored) → Tables
joined [] = []
joined (rows ∷ lists) = rows ++ joined lists

-- the rows of a table, by its number; none beyond the lists
abbrev pub rows_in : List (List Stored) → TableNo → List Stored
rows_in lists t = get_or lists t.0 []

-- each table holds the rows of the list at its number, and a table beyond the lists holds none
abbrev pub Hold : List (List Stored) → Tables → Type 0
Hold lists tables = (t : TableNo) → held_in t tables ≡ rows_in lists t

-- shapes that are well made, and lists of rows that fit them, each of its table
pub record AreLists (shapes : Shapes) (lists : List (List Stored)) : Type 0 where
  pub sound : AreSoundShapes shapes
  pub fit : FitTables shapes (joined lists)
  pub hold : Hold lists (joined lists)

-- tables whose rows the lists hold are the lists, one after another, and where they fit sound shapes the lists make a view
pub record ListsAreTables : Type 0 where
  pub tables : (lists : List (List Stored)) (tables : Tables) → IsInOrder tables → Hold lists tables → joined lists ≡ tables
  pub view : (shapes : Shapes) (lists : List (List Stored)) (tables : Tables) → AreSoundShapes shapes → FitTables shapes tables → Hold lists tables → AreLists shapes lists

-- tables and their shapes
pub record Version : Type 0 where
  pub shapes : Shapes
  pub tables : Tables

-- COSTS

-- the most steps to find a row of a table
abbrev pub row_cost : Version → TableNo → ℕ
row_cost v t = 1 + digits (length (held_in t v.tables))

-- those to find a vertex among the ends, and to find the vertex at the other end of each row of the edge table that names it
abbrev pub group_cost : Version → Dir → Key → EdgeShape → ℕ
group_cost v dir key shape = 3 + digits (length (held_in shape.table v.tables)) + length (entries_at dir key.values (all_ends shape (held_in shape.table v.tables))) * (1 + row_cost v (other_table shape dir))

-- and those to find the vertex itself
abbrev pub table_hop_cost : Version → Dir → Key → EdgeShape → ℕ
table_hop_cost v dir key shape = row_cost v (end_table shape dir) + group_cost v dir key shape

-- the most steps to find the edges of an edge table that have the vertex of a key at that end
abbrev pub hop_cost : Version → EdgeNo → Dir → Key → ℕ
hop_cost v e dir key = unwrap_or (option_map (table_hop_cost v dir key) (slice_get v.shapes.edges e.0)) 1
