-- A base: all tables of one version.
use Rattle.std.specs.Prelude.{ℕ, List, [], slice_get}
use Rattle.std.specs.Option.{option_map, unwrap_or}
use Rattle.pg_value.specs.declared.value.Value.{Value}
use Rattle.pg_value.specs.declared.value.Dir.{Dir}
use Rattle.pg_value.specs.declared.shape.EdgeNo.{EdgeNo}
use Rattle.pg_value.specs.declared.shape.EdgeShape.{EdgeShape}
use Rattle.pg_value.specs.declared.shape.Shapes.{Shapes}
use Rattle.pg_value.specs.Tables.{Tables, held_in}
use Rattle.pg_adj.specs.declared.ends.EdgeEnds.{EdgeEnds}
use Rattle.pg_adj.specs.Entries.{Entry, entries_at}
use Rattle.pg_view.specs.RowEnds.{all_ends}

-- the tables of version `no`, which fit the shapes, and these are well made
pub record BaseOf : Type 0 where
  pub shapes : Shapes
  pub no : ℕ
  pub tables : Tables

-- the rows of an edge table that name both ends; they need not be edges
abbrev pub ends_held : Tables → EdgeShape → List EdgeEnds
ends_held tables shape = all_ends shape (held_in shape.table tables)

abbrev pub ends_in_tables : Shapes → Tables → EdgeNo → List EdgeEnds
ends_in_tables shapes tables e = unwrap_or (option_map (ends_held tables) (slice_get shapes.edges e.0)) []

abbrev pub ends_in_base : BaseOf → EdgeNo → List EdgeEnds
ends_in_base base e = ends_in_tables base.shapes base.tables e

-- those that have a vertex at that end, in order of their keys
abbrev pub entries_in_base : BaseOf → EdgeNo → Dir → List Value → List Entry
entries_in_base base e dir v = entries_at dir v (ends_in_base base e)
