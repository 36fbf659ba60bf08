-- What a run is, and what is read of it.
use Rattle.std.specs.Prelude.{ℕ, List, [], slice_get}
use Rattle.std.specs.declared.option.Option.{Option}
use Rattle.std.specs.declared.option.Option.TheVariants.{Some, None}
use Rattle.std.specs.Option.{option_map, unwrap_or}
use Rattle.std.specs.List.{filter_map}
use Rattle.pg_value.specs.declared.value.Value.{Value}
use Rattle.pg_value.specs.declared.value.Dir.{Dir}
use Rattle.pg_value.specs.declared.row.Row.{Row}
use Rattle.pg_value.specs.declared.shape.TableNo.{TableNo}
use Rattle.pg_value.specs.declared.shape.EdgeNo.{EdgeNo}
use Rattle.pg_value.specs.declared.shape.EdgeShape.{EdgeShape}
use Rattle.pg_value.specs.declared.shape.Shapes.{Shapes}
use Rattle.pg_value.specs.declared.write.Write.{Write}
use Rattle.pg_value.specs.Tables.{Stored}
use Rattle.pg_value.specs.TablesLaws.{writes_to}
use Rattle.pg_value.specs.Log.{row_given}
use Rattle.pg_value.specs.Writes.{write_at}
use Rattle.pg_adj.specs.declared.ends.EdgeEnds.{EdgeEnds}
use Rattle.pg_adj.specs.Entries.{Entry, entries_at}
use Rattle.pg_view.specs.RowEnds.{all_ends}
use Rattle.pg_run.specs.declared.run.Found.{Found}
use Rattle.pg_run.specs.declared.run.Found.TheVariants as found

-- The writes of the versions after `after` up to `last` as one list of writes, in order of table and key: of each place the
-- last of these versions' writes. They fit the shapes. A transaction's own writes are those of no version.
pub record RunOf : Type 0 where
  pub shapes : Shapes
  pub after : ℕ
  pub last : ℕ
  pub writes : List Write

-- what the writes say of a place: nothing, that its row is gone, or its row
abbrev pub said_at : TableNo → List Value → RunOf → Option (Option Row)
said_at t k run = option_map (λ w. w.row) (write_at (t.0, k) run.writes)

abbrev pub said : Found → Option (Option Row)
said found.Absent = None
said found.Gone = Some None
said (found.Row row) = Some (Some row.now)

-- the rows that writes give to a table, in order of their keys
abbrev pub given_to : TableNo → List Write → List Stored
given_to t writes = filter_map row_given (writes_to t writes)

-- those of an edge table that name both ends; they need not be edges
abbrev pub ends_given : EdgeShape → List Write → List EdgeEnds
ends_given shape writes = all_ends shape (given_to shape.table writes)

abbrev pub ends_in_run : RunOf → EdgeNo → List EdgeEnds
ends_in_run run e = unwrap_or (option_map (λ shape. ends_given shape run.writes) (slice_get run.shapes.edges e.0)) []

-- those that have a vertex at that end, in order of their keys
abbrev pub entries_in_run : RunOf → EdgeNo → Dir → List Value → List Entry
entries_in_run run e dir v = entries_at dir v (ends_in_run run e)
