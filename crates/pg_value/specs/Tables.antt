-- The tables of a version: the rows that they hold, each beside its key, and what fits their shapes.
use Rattle.std.specs.Prelude.{ℕ, pos, negsuc, ◌≡◌, ◌≤◌, ◌≤ℤ◌, ◌==◌, false, List, map, slice_get, slice_index_or, length, IfSome}
use Rattle.std.specs.declared.option.Option.{Option}
use Rattle.std.specs.declared.option.Option.TheVariants.{Some}
use Rattle.std.specs.List.{filter, AllZip}
use Rattle.pg_keyed.specs.Keyed as keyed
use Rattle.pg_value.specs.declared.value.Kind.{Kind}
use Rattle.pg_value.specs.declared.value.Kind.TheVariants as kinds
use Rattle.pg_value.specs.declared.value.Value.{Value}
use Rattle.pg_value.specs.declared.value.Value.TheVariants.{Null, Int, Text, Bool as BoolV}
use Rattle.pg_value.specs.declared.row.Row.{Row}
use Rattle.pg_value.specs.declared.row.Key.{Key}
use Rattle.pg_value.specs.declared.shape.TableNo.{TableNo}
use Rattle.pg_value.specs.declared.shape.ColumnShape.{ColumnShape}
use Rattle.pg_value.specs.declared.shape.TableShape.{TableShape}
use Rattle.pg_value.specs.declared.shape.Shapes.{Shapes}
use Rattle.pg_value.specs.declared.write.Write.{Write}
use Rattle.pg_value.specs.declared.write.Stored.{Stored as StoredRow}
use Rattle.pg_value.specs.Order.{Place, place_cmp}

-- a row that a table holds, beside its key
abbrev pub Stored : Type 0
Stored = StoredRow

abbrev pub place_of : Stored → Place
place_of s = (s.table.0, s.key.values)

-- all rows of all tables, in order of table and key, no place twice; a table with no row has none here
abbrev pub Tables : Type 0
Tables = List Stored

abbrev pub IsInOrder : Tables → Type 0
IsInOrder tables = keyed.Ascends place_of place_cmp tables

-- what a table holds, in order of its keys
abbrev pub held_in : TableNo → Tables → List Stored
held_in t tables = filter (λ s. s.table.0 == t.0) tables

abbrev pub rows_of : TableNo → Tables → List Row
rows_of t tables = map (λ s. s.row) (held_in t tables)

-- the row of a table with a key
abbrev pub stored_at : Place → Tables → Option Stored
stored_at p tables = keyed.get place_of place_cmp p tables

-- WHAT FITS

-- the values in some columns
abbrev pub pick : List ℕ → List Value → List Value
pick columns values = map (λ c. slice_index_or values c Null) columns

abbrev pub FitsColumn : ColumnShape → Value → Type 0
FitsColumn c Null = c.not_null ≡ false
FitsColumn c (Int n) = (c.kind ≡ kinds.Int) × (negsuc 2147483647 ≤ℤ n) × (n ≤ℤ pos 2147483647)
FitsColumn c (Text t) = (c.kind ≡ kinds.Text) × (length t ≤ c.max_bytes)
FitsColumn c (BoolV b) = c.kind ≡ kinds.Bool

-- one value for each column, each of which fits it
abbrev pub FitsRow : TableShape → Row → Type 0
FitsRow shape row = AllZip FitsColumn shape.columns row.values

-- a value of a key column: of its kind, and not NULL
abbrev pub IsOfKind : Kind → Value → Type 0
IsOfKind kind Null = ⊥
IsOfKind kind (Int n) = kind ≡ kinds.Int
IsOfKind kind (Text t) = kind ≡ kinds.Text
IsOfKind kind (BoolV b) = kind ≡ kinds.Bool

-- the column at a place stands, and the value is one of its key
abbrev pub FitsKeyColumn : List ColumnShape → ℕ → Value → Type 0
FitsKeyColumn columns c v = (column : ColumnShape) × (slice_get columns c ≡ Some column) × IsOfKind column.kind v

-- one value for each key column; a key place that is no column of the table fits none
abbrev pub FitsKey : TableShape → Key → Type 0
FitsKey shape key = AllZip (FitsKeyColumn shape.columns) shape.key key.values

-- a row that fits its table and has the key in its key columns
abbrev pub FitsBoth : TableShape → Key → Row → Type 0
FitsBoth shape key row = FitsRow shape row × (pick shape.key row.values ≡ key.values)

-- the table exists, the key has the kinds of its key, and the row, where there is one, fits both
abbrev pub FitsWrite : Shapes → Write → Type 0
FitsWrite shapes w = (shape : TableShape) × (slice_get shapes.tables w.table.0 ≡ Some shape) × FitsKey shape w.key × IfSome w.row (FitsBoth shape w.key)

abbrev pub FitWrites : Shapes → List Write → Type 0
FitWrites shapes writes = keyed.Each (FitsWrite shapes) writes

abbrev pub FitsStored : Shapes → Stored → Type 0
FitsStored shapes s = (shape : TableShape) × (slice_get shapes.tables s.table.0 ≡ Some shape) × FitsKey shape s.key × FitsBoth shape s.key s.row

-- tables that hold, in order, rows that fit
pub record FitTables (shapes : Shapes) (tables : Tables) : Type 0 where
  pub in_order : IsInOrder tables
  pub each : keyed.Each (FitsStored shapes) tables
