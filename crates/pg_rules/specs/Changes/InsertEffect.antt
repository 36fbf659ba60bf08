-- What a checked INSERT does to a transaction's writes over the tables that it sees: the refusal of its first faulty row, or the writes then.
use Rattle.std.specs.Prelude.{ℕ, pos, negsuc, ◌≡◌, ◌+◌, ◌&&◌, ◌||◌, Bool, true, false, not, cond, nat_lt, is_some, ◌==◌, List, [], ◌∷◌, ◌++◌, map, length, fold}
use Rattle.std.specs.declared.option.Option.{Option}
use Rattle.std.specs.declared.option.Option.TheVariants.{Some, None}
use Rattle.std.specs.List.{list_any, range_with_len}
use Rattle.pg_value.specs.declared.value.Value.{Value}
use Rattle.pg_value.specs.declared.value.Value.TheVariants.{Null, Int, Text}
use Rattle.pg_value.specs.declared.row.Row.{Row}
use Rattle.pg_value.specs.declared.shape.TableNo.{TableNo}
use Rattle.pg_value.specs.declared.shape.ColumnShape.{ColumnShape}
use Rattle.pg_value.specs.declared.shape.TableShape.{TableShape}
use Rattle.pg_value.specs.declared.write.Write.{Write}
use Rattle.pg_value.specs.Tables.{Tables, pick, stored_at}
use Rattle.pg_value.specs.Writes.{named, write_at, merge}
use Rattle.pg_meaning.specs.declared.checked.CExpr.{CExpr}
use Rattle.pg_rules.specs.declared.fault.RowFault.{RowFault}
use Rattle.pg_rules.specs.declared.fault.RowFault.TheVariants as faults
use Rattle.pg_meaning.specs.CExprs.{ctree_of}
use Rattle.pg_meaning.specs.Meaning.{value_of, OfRow}

-- ROWS

-- the value of an expression that names nothing
abbrev pub plain_value : CExpr → Value
plain_value e = value_of (ctree_of e) (OfRow (record { values = [] }))

-- the value that a tuple gives a column: NULL where the column gets none
abbrev pub given : List ℕ → List Value → ℕ → Value
given [] vs column = Null
given (t ∷ ts) [] column = Null
given (t ∷ ts) (v ∷ vs) column = cond (t == column) v (given ts vs column)

-- the row of a tuple
abbrev pub row_of : TableShape → List ℕ → List CExpr → Row
row_of shape targets tuple = record { values = map (given targets (map plain_value tuple)) (range_with_len 0 (length shape.columns)) }

abbrev pub write_of : TableNo → TableShape → Row → Write
write_of table shape row = record { table = table; key = record { values = pick shape.key row.values }; row = Some row }

-- WHAT IS WRONG WITH A ROW

-- an INTEGER holds -2,147,483,648 to 2,147,483,647
abbrev pub in_range : Value → Bool
in_range (Int (pos n)) = nat_lt n 2147483648
in_range (Int (negsuc n)) = nat_lt n 2147483648
in_range _ = true

abbrev pub fits_length : ℕ → Value → Bool
fits_length most (Text t) = not (nat_lt most (length t))
fits_length most _ = true

abbrev pub is_null : Value → Bool
is_null Null = true
is_null _ = false

abbrev pub is_key : TableShape → ℕ → Bool
is_key shape column = list_any (λ k. k == column) shape.key

-- the first fault of a value in a column
abbrev pub null_fault : Bool → ColumnShape → Value → ℕ → Option RowFault
null_fault true c v column = cond (is_null v) (Some (faults.NullKey column)) None
null_fault false c v column = cond (is_null v && c.not_null) (Some (faults.NullNotAllowed column)) None

abbrev pub or_else : Option RowFault → Option RowFault → Option RowFault
or_else None later = later
or_else (Some f) later = Some f

abbrev pub size_fault : ColumnShape → Value → ℕ → Option RowFault
size_fault c v column = cond (not (in_range v)) (Some (faults.Range column)) (cond (not (fits_length c.max_bytes v)) (Some (faults.TooLong column)) None)

abbrev pub value_fault : TableShape → ColumnShape → Value → ℕ → Option RowFault
value_fault shape c v column = or_else (null_fault (is_key shape column) c v column) (size_fault c v column)

-- the first column with a fault, the first of these at that place
abbrev pub column_fault : TableShape → ℕ → List ColumnShape → List Value → Option RowFault
column_fault shape column [] vs = None
column_fault shape column (c ∷ cs) [] = None
column_fault shape column (c ∷ cs) (v ∷ vs) = or_else (value_fault shape c v column) (column_fault shape (column + 1) cs vs)

-- ROWS ONE AFTER ANOTHER

-- the writes with those of some rows put on them
abbrev pub with_rows : TableNo → TableShape → List Write → List Row → List Write
with_rows table shape writes rows = fold (λ ws row. merge ws (write_of table shape row ∷ [])) writes rows

-- the key is in the tables, or in a row before
abbrev pub is_duplicate : TableNo → TableShape → Tables → List Row → Row → Bool
is_duplicate table shape tables before row =
    is_some (stored_at (named (write_of table shape row)) tables)
    || is_some (write_at (named (write_of table shape row)) (with_rows table shape [] before))

-- a row behind others of the statement: first its columns, then its key, then the number of writes
abbrev pub row_fault : ℕ → TableNo → TableShape → Tables → List Write → List Row → Row → Option RowFault
row_fault limit table shape tables writes before row =
    or_else (column_fault shape 0 shape.columns row.values)
    (or_else (cond (is_duplicate table shape tables before row) (Some faults.Duplicate) None)
    (cond (nat_lt limit (length (with_rows table shape writes (before ++ row ∷ [])))) (Some faults.TooManyWrites) None))

-- the first row that has a fault, counted from 1, with its first fault
abbrev pub IsFirstFault : ℕ → TableNo → TableShape → Tables → List Write → List Row → ℕ → RowFault → Type 0
IsFirstFault limit table shape tables writes rows number fault =
    (before after : List Row) × (row : Row) × (rows ≡ before ++ row ∷ after) × (number ≡ length before + 1)
    × (row_fault limit table shape tables writes before row ≡ Some fault)
    × ((front back : List Row) (r : Row) → before ≡ front ++ r ∷ back → row_fault limit table shape tables writes front r ≡ None)

-- no row has a fault
abbrev pub AreRight : ℕ → TableNo → TableShape → Tables → List Write → List Row → Type 0
AreRight limit table shape tables writes rows =
    (front back : List Row) (r : Row) → rows ≡ front ++ r ∷ back → row_fault limit table shape tables writes front r ≡ None
