-- Where CREATE TABLE is refused: for each kind of fault its places, and what is defined where there is none.
use Rattle.std.specs.Prelude.{ℕ, ◌≡◌, ◌≤◌, Bool, not, ◌||◌, ◌==◌, nat_lt, is_some, List, [], ◌∷◌, ◌++◌, map, length, slice_get}
use Rattle.std.specs.declared.option.Option.{Option}
use Rattle.std.specs.declared.option.Option.TheVariants.{Some}
use Rattle.std.specs.Option.{option_map, option_to_list, unwrap_or}
use Rattle.std.specs.List.{flat_map, list_any}
use Rattle.std.specs.Str.{bytes_eq}
use Rattle.pg_value.specs.declared.value.Kind.{Kind}
use Rattle.pg_value.specs.declared.value.Kind.TheVariants as kinds
use Rattle.pg_ast.specs.declared.expr.Name.{Name}
use Rattle.pg_ast.specs.declared.define.TableDef.{TableDef}
use Rattle.pg_ast.specs.declared.define.ColumnDef.{ColumnDef}
use Rattle.pg_ast.specs.declared.define.ColumnType.{ColumnType}
use Rattle.pg_ast.specs.declared.define.ColumnType.TheVariants as types
use Rattle.pg_rules.specs.declared.entry.TableEntry.{TableEntry}
use Rattle.pg_rules.specs.declared.entry.ColumnEntry.{ColumnEntry}
use Rattle.pg_rules.specs.declared.fault.DefineFault.{DefineFault}
use Rattle.pg_rules.specs.declared.fault.DefineFault.TheVariants as faults
use Rattle.pg_rules.specs.Catalog.{Defined}
use Rattle.pg_rules.specs.Catalog.LookUps.{table_at, graph_at, column_place}
use Rattle.pg_rules.specs.Places.{place_if, first_fault}

-- the names that are a given text
abbrev pub again : List ℕ → List Name → List ℕ
again text names = flat_map (λ n. place_if (bytes_eq n.text text) n.at) names

-- each name that stands among those before it
abbrev pub repeats : List Name → List ℕ
repeats [] = []
repeats (n ∷ ns) = again n.text ns ++ repeats ns

abbrev pub names : List ColumnDef → List Name
names columns = map (λ c. c.name) columns

-- the table's name that exists, and the names that stand twice among the columns or in one key
abbrev pub name_taken : Bool → TableDef → List ℕ
name_taken is_defined t = place_if is_defined t.name.at ++ (repeats (names t.columns) ++ flat_map repeats t.keys)

abbrev pub member : List ℕ → List (List ℕ) → Bool
member text texts = list_any (bytes_eq text) texts

-- the names that are none of the known texts
abbrev pub unknown : List (List ℕ) → List Name → List ℕ
unknown known ns = flat_map (λ n. place_if (not (member n.text known)) n.at) ns

abbrev pub texts : List ColumnDef → List (List ℕ)
texts columns = map (λ c. c.name.text) columns

-- the names in a key that are no column
abbrev pub no_column : TableDef → List ℕ
no_column t = flat_map (unknown (texts t.columns)) t.keys

-- no primary key clause, or two
abbrev pub key_mismatch : TableDef → List ℕ
key_mismatch t = place_if (not (length t.keys == 1)) t.name.at

-- the first name beyond a number
abbrev pub beyond : ℕ → List Name → List ℕ
beyond most ns = option_to_list (option_map (λ n. n.at) (slice_get ns most))

abbrev pub too_long : ColumnType → List ℕ
too_long types.Integer = []
too_long types.Boolean = []
too_long (types.Varchar bytes at) = place_if ((bytes == 0) || nat_lt 255 bytes) at

abbrev pub too_long_column : ColumnDef → List ℕ
too_long_column c = too_long c.kind

-- the 65th table, the 33rd column, the 5th name of a key, and the lengths that no text may have
abbrev pub limit : Bool → TableDef → List ℕ
limit is_full t = place_if is_full t.at ++ (beyond 32 (names t.columns) ++ (flat_map (beyond 4) t.keys ++ flat_map too_long_column t.columns))

-- tables and graphs share one space of names
abbrev pub is_defined : Defined → List ℕ → Bool
is_defined d name = is_some (table_at d name) || is_some (graph_at d name)

abbrev pub is_full : Defined → Bool
is_full d = nat_lt 63 (length d.0)

-- THE KINDS IN ORDER, WITH THEIR PLACES

abbrev pub table_fault : Defined → TableDef → Option DefineFault
table_fault d t = first_fault (
    (faults.NameTaken, name_taken (is_defined d t.name.text) t) ∷
    (faults.NoColumn, no_column t) ∷
    (faults.KeyMismatch, key_mismatch t) ∷
    (faults.Limit, limit (is_full d) t) ∷ [])

-- want of memory is free; any other fault is the one that is found
abbrev pub IsFault : Option DefineFault → DefineFault → Type 0
IsFault o faults.Memory = Unit {0}
IsFault o (faults.NameTaken at) = o ≡ Some (faults.NameTaken at)
IsFault o (faults.NoTable at) = o ≡ Some (faults.NoTable at)
IsFault o (faults.NoColumn at) = o ≡ Some (faults.NoColumn at)
IsFault o (faults.KeyMismatch at) = o ≡ Some (faults.KeyMismatch at)
IsFault o (faults.LabelMismatch at) = o ≡ Some (faults.LabelMismatch at)
IsFault o (faults.TypeMismatch at) = o ≡ Some (faults.TypeMismatch at)
IsFault o (faults.Limit at) = o ≡ Some (faults.Limit at)

-- WHAT IS DEFINED

abbrev pub kind_of : ColumnType → Kind
kind_of types.Integer = kinds.Int
kind_of types.Boolean = kinds.Bool
kind_of (types.Varchar bytes at) = kinds.Text

abbrev pub bytes_of : ColumnType → ℕ
bytes_of types.Integer = 0
bytes_of types.Boolean = 0
bytes_of (types.Varchar bytes at) = bytes

abbrev pub is_named : List Name → List ℕ → Bool
is_named ns text = list_any (λ n. bytes_eq n.text text) ns

-- a column; those of the primary key are never NULL
abbrev pub column_of : List Name → ColumnDef → ColumnEntry
column_of key c = record { name = c.name.text; shape = record { kind = kind_of c.kind; not_null = c.not_null || is_named key c.name.text; max_bytes = bytes_of c.kind } }

abbrev pub place_of : List ColumnEntry → Name → ℕ
place_of columns n = unwrap_or (column_place columns n.text) 0

abbrev pub key_of : List (List Name) → List Name
key_of [] = []
key_of (k ∷ ks) = k

abbrev pub columns_of : TableDef → List ColumnEntry
columns_of t = map (column_of (key_of t.keys)) t.columns

abbrev pub entry_of : TableDef → TableEntry
entry_of t = record { columns = columns_of t; key = map (place_of (columns_of t)) (key_of t.keys) }

-- the table stands behind the others
abbrev pub with_table : Defined → TableDef → Defined
with_table d t = (d.0 ++ (t.name.text, entry_of t) ∷ [], d.1)

abbrev pub IsFewColumns : TableDef → Type 0
IsFewColumns t = length t.columns ≤ 32
