-- Sound changes: the table and the columns that get values stand, and each value is sound and of its column's kind.
use Rattle.std.specs.Prelude.{ℕ, ◌≡◌, List, [], map, slice_get, Contains, Option, Some, None}
use Rattle.std.specs.List.{AllZip}
use Rattle.pg_keyed.specs.Lists.{Each}
use Rattle.pg_value.specs.declared.row.Row.{Row}
use Rattle.pg_value.specs.declared.shape.TableNo.{TableNo}
use Rattle.pg_value.specs.declared.shape.ColumnShape.{ColumnShape}
use Rattle.pg_value.specs.declared.shape.TableShape.{TableShape}
use Rattle.pg_value.specs.declared.shape.Shapes.{Shapes}
use Rattle.pg_value.specs.Tables.{FitsRow}
use Rattle.pg_meaning.specs.declared.checked.CExpr.{CExpr}
use Rattle.pg_meaning.specs.declared.checked.CheckedSet.{CheckedSet}
use Rattle.pg_meaning.specs.declared.checked.CheckedChange.{CheckedChange}
use Rattle.pg_meaning.specs.declared.checked.CheckedChange.TheVariants.{Insert, Update, Delete}
use Rattle.pg_meaning.specs.Bindings.{Distinct}
use Rattle.pg_meaning.specs.CExprs.{CTree, ctree_of}
use Rattle.pg_meaning.specs.Typing.{widest}
use Rattle.pg_meaning.specs.Meaning.{Scope, OfRow, value_of}
use Rattle.pg_meaning.specs.Sound.Kinds.{Frame, OfColumns, Fit, IsWithin}
use Rattle.pg_meaning.specs.Sound.{Degrees, IsSoundTree, IsSoundOf, IsSoundCondition}

-- no variable stands in the expressions of a change
abbrev pub no_variables : Degrees
no_variables x = None

-- a value for the column at a place: sound over what it may read, and of the column's kind
pub record IsSoundValue (table : TableShape) (frame : Frame) (c : ℕ) (value : CExpr) : Type 0 where
  pub column : ColumnShape
  pub stands : slice_get table.columns c ≡ Some column
  pub sound : IsSoundOf column.kind frame no_variables value

-- columns that differ, and in each tuple a value for each, which reads nothing
pub record IsSoundInsert (table : TableShape) (columns : List ℕ) (tuples : List (List CExpr)) : Type 0 where
  pub differ : Distinct columns
  pub values : Each (λ tuple. AllZip (IsSoundValue table (OfColumns [])) columns tuple) tuples

-- columns that differ and are no key columns, each with a value over the old row, and a condition over the old row
pub record IsSoundUpdate (table : TableShape) (sets : List CheckedSet) (condition : Option CExpr) : Type 0 where
  pub differ : Distinct (map (λ s. s.column) sets)
  pub no_key : Each (λ s. Contains table.key s.column → ⊥) sets
  pub values : Each (λ s. IsSoundValue table (OfColumns table.columns) s.column s.value) sets
  pub condition_sound : IsSoundCondition (OfColumns table.columns) no_variables condition

abbrev pub IsSoundFor : TableShape → CheckedChange → Type 0
IsSoundFor table (Insert t columns tuples) = IsSoundInsert table columns tuples
IsSoundFor table (Update t sets condition) = IsSoundUpdate table sets condition
IsSoundFor table (Delete t condition) = IsSoundCondition (OfColumns table.columns) no_variables condition

-- the table that is changed
abbrev pub table_of : CheckedChange → TableNo
table_of (Insert t columns tuples) = t
table_of (Update t sets condition) = t
table_of (Delete t condition) = t

pub record IsSoundChange (shapes : Shapes) (change : CheckedChange) : Type 0 where
  pub table : TableShape
  pub stands : slice_get shapes.tables (table_of change).0 ≡ Some table
  pub sound : IsSoundFor table change

-- THE LAW

-- the value of a sound expression has at most 126 binary digits over everything that fits what it reads, and so has each value of SET over a
-- row that fits its table
pub record ValuesAreNarrow : Type 0 where
  pub expression : (frame : Frame) (degrees : Degrees) (scope : Scope) (x : CTree) → IsSoundTree frame degrees x → Fit frame scope → IsWithin widest (value_of x scope)
  pub update : (table : TableShape) (sets : List CheckedSet) (condition : Option CExpr) (row : Row) → IsSoundUpdate table sets condition → FitsRow table row
      → Each (λ s. IsWithin widest (value_of (ctree_of s.value) (OfRow row))) sets
