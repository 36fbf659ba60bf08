-- How many steps the reads of a snapshot take at most. A step is the reading of one entry of a list.
use Rattle.std.specs.Prelude.{ℕ, ◌+◌, ◌*◌, List, [], ◌∷◌, length, slice_get}
use Rattle.std.specs.Option.{option_map, unwrap_or}
use Rattle.pg_chunks.specs.Digits.{digits}
use Rattle.pg_value.specs.declared.value.Value.{Value}
use Rattle.pg_value.specs.declared.value.Dir.{Dir}
use Rattle.pg_value.specs.declared.row.Key.{Key}
use Rattle.pg_value.specs.declared.shape.TableNo.{TableNo}
use Rattle.pg_value.specs.declared.shape.EdgeNo.{EdgeNo}
use Rattle.pg_value.specs.declared.shape.EdgeShape.{EdgeShape}
use Rattle.pg_value.specs.Tables.{held_in}
use Rattle.pg_value.specs.TablesLaws.{writes_to}
use Rattle.pg_view.specs.Neighbours.{end_table, other_table}
use Rattle.pg_run.specs.Runs.{RunOf, ends_in_run, entries_in_run}
use Rattle.pg_snap.specs.Bases.{BaseOf, ends_in_base, entries_in_base}
use Rattle.pg_snap.specs.Snapshots.{SnapOf, parts}

-- ROWS

-- the row of a key in the base: one step, and the binary digits of the number of rows
abbrev pub base_cost : BaseOf → TableNo → ℕ
base_cost base t = 1 + digits (length (held_in t base.tables))

-- what a run says of it: one step, and the binary digits of the number of its writes to the table
abbrev pub run_cost : TableNo → RunOf → ℕ
run_cost t run = 1 + digits (length (writes_to t run.writes))

abbrev pub runs_cost : TableNo → List RunOf → ℕ
runs_cost t [] = 0
runs_cost t (run ∷ runs) = run_cost t run + runs_cost t runs

-- so in all parts
abbrev pub find_cost : SnapOf → TableNo → ℕ
find_cost s t = base_cost s.base t + runs_cost t (parts s)

-- EDGES

-- a vertex among the ends in the base, and in a run
abbrev pub base_search : BaseOf → EdgeNo → ℕ
base_search base e = 3 + digits (length (ends_in_base base e))

abbrev pub run_search : EdgeNo → RunOf → ℕ
run_search e run = 3 + digits (length (ends_in_run run e))

abbrev pub runs_search : EdgeNo → List RunOf → ℕ
runs_search e [] = 0
runs_search e (run ∷ runs) = run_search e run + runs_search e runs

-- how many entries the vertex has in runs
abbrev pub runs_entries : EdgeNo → Dir → List Value → List RunOf → ℕ
runs_entries e dir v [] = 0
runs_entries e dir v (run ∷ runs) = length (entries_in_run run e dir v) + runs_entries e dir v runs

-- and in all parts
abbrev pub entries : SnapOf → EdgeNo → Dir → List Value → ℕ
entries s e dir v = length (entries_in_base s.base e dir v) + runs_entries e dir v (parts s)

-- the entries of a vertex in all parts, and for each entry one step, the row of the edge and that of the vertex at the other end
abbrev pub group_cost : SnapOf → EdgeNo → Dir → Key → EdgeShape → ℕ
group_cost s e dir key shape =
    (base_search s.base e + runs_search e (parts s)) + entries s e dir key.values * (1 + find_cost s shape.table + find_cost s (other_table shape dir))

-- and those to find the vertex itself
abbrev pub table_hop_cost : SnapOf → EdgeNo → Dir → Key → EdgeShape → ℕ
table_hop_cost s e dir key shape = find_cost s (end_table shape dir) + group_cost s e dir key shape

-- the most steps to find the edges of an edge table that have the vertex of a key at that end
abbrev pub hop_cost : SnapOf → EdgeNo → Dir → Key → ℕ
hop_cost s e dir key = unwrap_or (option_map (table_hop_cost s e dir key) (slice_get s.base.shapes.edges e.0)) 1
