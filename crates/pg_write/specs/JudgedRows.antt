-- The rows that a change proposes, judged one after another, up to the first that has a fault.
use Rattle.std.specs.Prelude.{ℕ, ◌+◌, ◌||◌, ◌&&◌, not, ◌==◌, ◌≡◌, IfSome, option_to_list, Bool, true, false, cond, nat_lt, is_some, List, [], ◌∷◌, map, filter, length, Option, Some, None}
use Rattle.pg_keyed.specs.Lists.{Each}
use Rattle.pg_value.specs.declared.value.Value.{Value}
use Rattle.pg_value.specs.declared.row.Row.{Row}
use Rattle.pg_value.specs.declared.shape.TableNo.{TableNo}
use Rattle.pg_value.specs.declared.shape.TableShape.{TableShape}
use Rattle.pg_value.specs.declared.write.Write.{Write}
use Rattle.pg_value.specs.Tables.{Stored, Tables, IsInOrder, FitsBoth, held_in, stored_at}
use Rattle.pg_value.specs.Writes.{named, write_at, merge}
use Rattle.pg_meaning.specs.declared.checked.CExpr.{CExpr}
use Rattle.pg_meaning.specs.declared.checked.CheckedSet.{CheckedSet}
use Rattle.pg_meaning.specs.declared.checked.CheckedChange.{CheckedChange}
use Rattle.pg_meaning.specs.declared.checked.CheckedChange.TheVariants.{Insert, Update, Delete}
use Rattle.pg_expr.specs.Conditions.{IsCheckedForRow}
use Rattle.pg_rules.specs.declared.fault.RowFault.{RowFault}
use Rattle.pg_rules.specs.declared.fault.RowFault.TheVariants as faults
use Rattle.pg_rules.specs.Changes.InsertEffect.{row_of, write_of, or_else}
use Rattle.pg_rules.specs.Changes.ChangeEffect.{Context, takes, update_of, delete_of, columns_fault}
use Rattle.pg_write.specs.declared.judged.RowsSoFar.{RowsSoFar}

-- THE ROWS OF A CHANGE

abbrev pub condition_of : CheckedChange → Option CExpr
condition_of (Insert table columns tuples) = None
condition_of (Update table sets condition) = condition
condition_of (Delete table condition) = condition

-- what becomes of a row that is taken
abbrev pub write_for : CheckedChange → Stored → Write
write_for (Insert table columns tuples) s = delete_of s
write_for (Update table sets condition) s = update_of sets s
write_for (Delete table condition) s = delete_of s

-- of some rows, those of which the condition is true
abbrev pub writes_for : CheckedChange → List Stored → List Write
writes_for change rows = map (write_for change) (filter (λ s. takes (condition_of change) s.row) rows)

abbrev pub writes_of : TableNo → TableShape → List ℕ → List (List CExpr) → List Write
writes_of table shape columns tuples = map (λ tuple. write_of table shape (row_of shape columns tuple)) tuples

-- A ROW OF AN INSERT

-- the value that a tuple has for a column, if it has one
abbrev pub expr_for : List ℕ → List CExpr → ℕ → Option CExpr
expr_for [] es column = None
expr_for (t ∷ ts) [] column = None
expr_for (t ∷ ts) (e ∷ es) column = cond (t == column) (Some e) (expr_for ts es column)

-- WHAT EVALUATION RELIES ON

abbrev pub sets_of : CheckedChange → List CheckedSet
sets_of (Insert table columns tuples) = []
sets_of (Update table sets condition) = sets
sets_of (Delete table condition) = []

-- the condition and the values of SET may be evaluated over a row
pub record IsCheckedFor (change : CheckedChange) (row : Row) : Type 0 where
  pub condition : IfSome (condition_of change) (IsCheckedForRow row)
  pub values : Each (λ s. IsCheckedForRow row s.value) (sets_of change)

abbrev pub AreCheckedFor : CheckedChange → List Stored → Type 0
AreCheckedFor change rows = Each (λ s. IsCheckedFor change s.row) rows

-- the row that INSERT evaluates over has no values
abbrev pub no_values : Row
no_values = record { values = [] }

-- A ROW BEHIND OTHERS

-- what the rows so far write, and how many they are
pub record SoFar : Type 0 where
  pub made : List Write
  pub rows : ℕ

abbrev pub so_far : RowsSoFar → SoFar
so_far r = record { made = r.made.list; rows = r.rows }

abbrev pub no_rows : SoFar
no_rows = record { made = []; rows = 0 }

-- how many writes the transaction has with them is known, and they have its limit
pub record AreCounted (limit : ℕ) (writes : List Write) (r : RowsSoFar) : Type 0 where
  pub counted : r.total ≡ length (merge writes r.made.list)
  pub limited : r.made.limit ≡ limit

-- the key is in the tables, or among the rows so far
abbrev pub is_there_over : Tables → List Write → Write → Bool
is_there_over tables made w = is_some (stored_at (named w) tables) || is_some (write_at (named w) made)

abbrev pub duplicate_over : Bool → Tables → List Write → Write → Option RowFault
duplicate_over true tables made w = cond (is_there_over tables made w) (Some faults.Duplicate) None
duplicate_over false tables made w = None

-- neither has a write of the key
abbrev pub is_new : List Write → List Write → Write → Bool
is_new writes made w = not (is_some (write_at (named w) made)) && not (is_some (write_at (named w) writes))

-- the transaction's writes, with those of the rows so far and of one more
abbrev pub count_with : List Write → List Write → Write → ℕ
count_with writes made w = length (merge writes (merge made (w ∷ [])))

-- the same, where it is within the limit
abbrev pub count_within : ℕ → ℕ → Option ℕ
count_within limit count = cond (nat_lt limit count) None (Some count)

abbrev pub limit_fault : ℕ → ℕ → Option RowFault
limit_fault limit count = cond (nat_lt limit count) (Some faults.TooManyWrites) None

abbrev pub fault_over : Context → Bool → List Write → Write → Option RowFault
fault_over c insert made w = or_else (columns_fault c.shape w.row) (or_else (duplicate_over insert c.tables made w) (limit_fault c.limit (count_with c.writes made w)))

-- ROWS ONE AFTER ANOTHER

pub data Judged : Type 0 where
  Fine : SoFar → Judged
  Faulty : ℕ → RowFault → Judged

-- the row behind those so far has a fault, or it is one of them now
abbrev pub told : Option RowFault → SoFar → Judged
told None s = Fine s
told (Some f) s = Faulty (s.rows + 1) f

abbrev pub and_then : Judged → (SoFar → Judged) → Judged
and_then (Fine s) later = later s
and_then (Faulty number f) later = Faulty number f

abbrev pub with_row : SoFar → Write → SoFar
with_row s w = record { made = merge s.made (w ∷ []); rows = s.rows + 1 }

abbrev pub row_judged : Context → Bool → SoFar → Write → Judged
row_judged c insert s w = elim (fault_over c insert s.made w) [ None ↦ Fine (with_row s w) | Some f ↦ Faulty (s.rows + 1) f ]

abbrev pub judged : Context → Bool → SoFar → List Write → Judged
judged c insert s [] = Fine s
judged c insert s (w ∷ ws) = and_then (row_judged c insert s w) (λ t. judged c insert t ws)

-- ROWS THAT ARE TAKEN

-- a row of which the condition is true, or one that is passed over
abbrev pub row_taken : Context → Bool → CheckedChange → SoFar → Stored → Judged
row_taken c insert change s row = cond (takes (condition_of change) row.row) (row_judged c insert s (write_for change row)) (Fine s)

-- those of some rows
abbrev pub rows_taken : Context → Bool → CheckedChange → SoFar → List Stored → Judged
rows_taken c insert change s rows = judged c insert s (writes_for change rows)

-- the row of a key, if there is one
abbrev pub row_at : Tables → TableNo → List Value → List Stored
row_at tables table key = option_to_list (stored_at (table.0, key) tables)

-- tables in order, of which this one holds rows that fit their columns and stand under the values of their key columns
pub record AreStored (table : TableNo) (shape : TableShape) (tables : Tables) : Type 0 where
  pub in_order : IsInOrder tables
  pub each : Each (λ s. FitsBoth shape s.key s.row) (held_in table tables)
