-- What the look-ups of a catalog give.
use Rattle.std.specs.Prelude.{ℕ, List, [], map, position, slice_get}
use Rattle.std.specs.declared.option.Option.{Option}
use Rattle.std.specs.declared.option.Option.TheVariants.{Some, None}
use Rattle.std.specs.List.{position_from}
use Rattle.std.specs.Option.{option_map, option_and_then}
use Rattle.std.specs.Str.{bytes_eq}
use Rattle.pg_value.specs.declared.shape.TableNo.{TableNo}
use Rattle.pg_value.specs.declared.shape.GraphNo.{GraphNo}
use Rattle.pg_rules.specs.declared.entry.TableEntry.{TableEntry}
use Rattle.pg_rules.specs.declared.entry.ColumnEntry.{ColumnEntry}
use Rattle.pg_rules.specs.Catalog.{Tables, Defined}

abbrev pub nothing : Defined
nothing = ([], [])

abbrev pub table_number : ℕ → TableNo
table_number n = record { 0 = n }

abbrev pub graph_number : ℕ → GraphNo
graph_number n = record { 0 = n }

-- the place of a table among some tables
abbrev pub table_in : Tables → List ℕ → Option ℕ
table_in tables name = position (bytes_eq name) (map (λ e. e.0) tables)

-- the place of a table among the tables
abbrev pub table_at : Defined → List ℕ → Option ℕ
table_at d name = table_in d.0 name

-- the place of a graph among the graphs
abbrev pub graph_at : Defined → List ℕ → Option ℕ
graph_at d name = position (bytes_eq name) (map (λ e. e.0) d.1)

abbrev pub name_at : Defined → TableNo → Option (List ℕ)
name_at d t = option_map (λ e. e.0) (slice_get d.0 t.0)

-- the place of a column among some columns
abbrev pub column_place : List ColumnEntry → List ℕ → Option ℕ
column_place columns name = position_from (bytes_eq name) 0 (map (λ c. c.name) columns)

abbrev pub columns_in : Option (List ℕ × TableEntry) → List ColumnEntry
columns_in None = []
columns_in (Some e) = e.1.columns

abbrev pub key_in : Option (List ℕ × TableEntry) → List ℕ
key_in None = []
key_in (Some e) = e.1.key

-- the columns of a table, none where there is no such table
abbrev pub columns_at : Defined → TableNo → List ColumnEntry
columns_at d t = columns_in (slice_get d.0 t.0)

-- the table of a name
abbrev pub table_named : Tables → List ℕ → Option (List ℕ × TableEntry)
table_named tables name = option_and_then (slice_get tables) (table_in tables name)

-- the columns of the table of a name, none where there is no such table
abbrev pub columns_named : Tables → List ℕ → List ColumnEntry
columns_named tables name = columns_in (table_named tables name)

-- the places of the primary key's columns in the table of a name
abbrev pub key_named : Tables → List ℕ → List ℕ
key_named tables name = key_in (table_named tables name)

abbrev pub column_at : Defined → TableNo → List ℕ → Option ℕ
column_at d t name = column_place (columns_at d t) name

abbrev pub column_name_at : Defined → TableNo → ℕ → Option (List ℕ)
column_name_at d t c = option_map (λ e. e.name) (slice_get (columns_at d t) c)
