-- What a checked change does to a transaction's writes over the tables that it sees: the rows that it proposes, the refusal of the first
-- faulty one, or the writes then.
use Rattle.std.specs.Prelude.{ℕ, ◌≡◌, ◌+◌, ◌==◌, ◌||◌, Bool, true, false, cond, nat_lt, is_some, List, [], ◌∷◌, ◌++◌, map, filter, length, fold, slice_index_or, find, Option, Some, None}
use Rattle.std.specs.List.{range_with_len}
use Rattle.pg_value.specs.declared.value.Value.{Value}
use Rattle.pg_value.specs.declared.value.Value.TheVariants.{Null}
use Rattle.pg_value.specs.declared.value.Truth.{Truth}
use Rattle.pg_value.specs.declared.value.Truth.TheVariants.{True, False, Unknown}
use Rattle.pg_value.specs.declared.row.Row.{Row}
use Rattle.pg_value.specs.declared.shape.TableNo.{TableNo}
use Rattle.pg_value.specs.declared.shape.TableShape.{TableShape}
use Rattle.pg_value.specs.declared.write.Write.{Write}
use Rattle.pg_value.specs.Tables.{Stored, Tables, held_in, stored_at}
use Rattle.pg_value.specs.Writes.{named, write_at, merge}
use Rattle.pg_meaning.specs.declared.checked.CExpr.{CExpr}
use Rattle.pg_meaning.specs.declared.checked.CheckedSet.{CheckedSet}
use Rattle.pg_meaning.specs.declared.checked.CheckedChange.{CheckedChange}
use Rattle.pg_meaning.specs.declared.checked.CheckedChange.TheVariants.{Insert, Update, Delete}
use Rattle.pg_meaning.specs.CExprs.{ctree_of}
use Rattle.pg_meaning.specs.Meaning.{OfRow, value_of, truth_of}
use Rattle.pg_rules.specs.declared.fault.RowFault.{RowFault}
use Rattle.pg_rules.specs.declared.fault.RowFault.TheVariants as faults
use Rattle.pg_rules.specs.Changes.InsertEffect as inserts
use Rattle.pg_rules.specs.Changes.InsertEffect.{row_of, write_of, column_fault, or_else}

-- the most writes that a transaction may have
abbrev pub most_writes : ℕ
most_writes = 1048576

-- THE ROWS THAT A CHANGE PROPOSES

abbrev pub is_true : Truth → Bool
is_true True = true
is_true False = false
is_true Unknown = false

-- a condition is true of a row, or there is none
abbrev pub takes : Option CExpr → Row → Bool
takes None row = true
takes (Some c) row = is_true (truth_of (ctree_of c) (OfRow row))

-- the rows of a table of which a condition is true, in order of their keys
abbrev pub taken : TableNo → Option CExpr → Tables → List Stored
taken table condition tables = filter (λ s. takes condition s.row) (held_in table tables)

abbrev pub value_set : Option CheckedSet → Row → Value → Value
value_set None row old = old
value_set (Some s) row old = value_of (ctree_of s.value) (OfRow row)

-- a row with the columns of SET, each computed from the old row
abbrev pub updated : List CheckedSet → Row → Row
updated sets row = record { values = map (λ c. value_set (find (λ s. s.column == c) sets) row (slice_index_or row.values c Null)) (range_with_len 0 (length row.values)) }

abbrev pub update_of : List CheckedSet → Stored → Write
update_of sets s = record { table = s.table; key = s.key; row = Some (updated sets s.row) }

abbrev pub delete_of : Stored → Write
delete_of s = record { table = s.table; key = s.key; row = None }

-- INSERT takes its tuples in order, UPDATE and DELETE take rows in order of their keys
abbrev pub proposed : TableShape → Tables → CheckedChange → List Write
proposed shape tables (Insert table columns tuples) = map (λ tuple. write_of table shape (row_of shape columns tuple)) tuples
proposed shape tables (Update table sets condition) = map (update_of sets) (taken table condition tables)
proposed shape tables (Delete table condition) = map delete_of (taken table condition tables)

-- WHAT IS WRONG WITH A ROW

abbrev pub is_insert : CheckedChange → Bool
is_insert (Insert table columns tuples) = true
is_insert (Update table sets condition) = false
is_insert (Delete table condition) = false

-- the first column with a fault; a row that is gone has none
abbrev pub columns_fault : TableShape → Option Row → Option RowFault
columns_fault shape None = None
columns_fault shape (Some row) = column_fault shape 0 shape.columns row.values

-- writes one after another put on writes
abbrev pub with_writes : List Write → List Write → List Write
with_writes writes proposals = fold (λ ws w. merge ws (w ∷ [])) writes proposals

-- the key is in the tables, or in a row before
abbrev pub is_there : Tables → List Write → Write → Bool
is_there tables before w = is_some (stored_at (named w) tables) || is_some (write_at (named w) (with_writes [] before))

abbrev pub duplicate : Bool → Tables → List Write → Write → Option RowFault
duplicate true tables before w = cond (is_there tables before w) (Some faults.Duplicate) None
duplicate false tables before w = None

-- a row behind others of the statement: first its columns, then, for INSERT alone, its key, then the number of writes
abbrev pub row_fault : ℕ → Bool → TableShape → Tables → List Write → List Write → Write → Option RowFault
row_fault limit insert shape tables writes before w =
    or_else (columns_fault shape w.row)
    (or_else (duplicate insert tables before w)
    (cond (nat_lt limit (length (with_writes writes (before ++ w ∷ [])))) (Some faults.TooManyWrites) None))

-- THE EFFECT

-- what a change meets: the limit of a transaction's writes, the table's shape, the tables that it sees, and the writes so far, which the
-- tables have already
pub record Context : Type 0 where
  pub limit : ℕ
  pub shape : TableShape
  pub tables : Tables
  pub writes : List Write

abbrev pub fault_behind : Context → CheckedChange → List Write → Write → Option RowFault
fault_behind c change before w = row_fault c.limit (is_insert change) c.shape c.tables c.writes before w

-- the first row that has a fault, counted from 1, with its first fault
pub record IsFirstFault (c : Context) (change : CheckedChange) (number : ℕ) (fault : RowFault) : Type 0 where
  pub before : List Write
  pub row : Write
  pub after : List Write
  pub rows : proposed c.shape c.tables change ≡ before ++ row ∷ after
  pub counted : number ≡ length before + 1
  pub faulty : fault_behind c change before row ≡ Some fault
  pub right_before : (front back : List Write) (w : Write) → before ≡ front ++ w ∷ back → fault_behind c change front w ≡ None

-- no row has a fault, and these are the writes then, and the number of rows
pub record IsDone (c : Context) (change : CheckedChange) (writes : List Write) (rows : ℕ) : Type 0 where
  pub right : (front back : List Write) (w : Write) → proposed c.shape c.tables change ≡ front ++ w ∷ back → fault_behind c change front w ≡ None
  pub written : writes ≡ with_writes c.writes (proposed c.shape c.tables change)
  pub counted : rows ≡ length (proposed c.shape c.tables change)

-- THE LAW

abbrev pub context : ℕ → TableShape → Tables → List Write → Context
context limit shape tables writes = record { limit = limit; shape = shape; tables = tables; writes = writes }

-- of an INSERT it says the same as the effect of INSERT alone
pub record InsertsAgree : Type 0 where
  pub written : (table : TableNo) (shape : TableShape) (writes : List Write) (rows : List Row) → with_writes writes (map (write_of table shape) rows) ≡ inserts.with_rows table shape writes rows
  pub fault : (limit : ℕ) (table : TableNo) (shape : TableShape) (tables : Tables) (writes : List Write) (before : List Row) (row : Row)
      → row_fault limit true shape tables writes (map (write_of table shape) before) (write_of table shape row) ≡ inserts.row_fault limit table shape tables writes before row
  pub first : (limit : ℕ) (table : TableNo) (shape : TableShape) (tables : Tables) (writes : List Write) (columns : List ℕ) (tuples : List (List CExpr)) (number : ℕ) (fault : RowFault)
      → inserts.IsFirstFault limit table shape tables writes (map (row_of shape columns) tuples) number fault → IsFirstFault (context limit shape tables writes) (Insert table columns tuples) number fault
  pub right : (limit : ℕ) (table : TableNo) (shape : TableShape) (tables : Tables) (writes : List Write) (columns : List ℕ) (tuples : List (List CExpr))
      → inserts.AreRight limit table shape tables writes (map (row_of shape columns) tuples)
      → IsDone (context limit shape tables writes) (Insert table columns tuples) (inserts.with_rows table shape writes (map (row_of shape columns) tuples)) (length tuples)
