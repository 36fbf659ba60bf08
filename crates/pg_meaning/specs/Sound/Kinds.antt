-- The kinds and widths of checked expressions, over the shapes of what they read, and the law that no value is wider than its width.
use Rattle.std.specs.Prelude.{ℕ, ◌<◌, ◌≤◌, ◌^◌, max, List, [], ◌∷◌, length, unsigned_abs, slice_get, Option, Some, None, option_map}
use Rattle.std.specs.List.{AllZip, cons_option}
use Rattle.pg_value.specs.declared.value.Kind.{Kind}
use Rattle.pg_value.specs.declared.value.Kind.TheVariants as kinds
use Rattle.pg_value.specs.declared.value.Value.{Value}
use Rattle.pg_value.specs.declared.value.Value.TheVariants.{Null, Int, Text, Bool as Truth'}
use Rattle.pg_value.specs.declared.shape.ColumnShape.{ColumnShape}
use Rattle.pg_value.specs.declared.shape.TableShape.{TableShape}
use Rattle.pg_value.specs.declared.shape.Shapes.{Shapes}
use Rattle.pg_value.specs.Tables.{FitsColumn, FitTables}
use Rattle.pg_ast.specs.Grammar.Exprs.{binary_digits}
use Rattle.pg_meaning.specs.CExprs.{CTree, Literal, ColumnAt, PropertyOf, One, Two, Group, Counted}
use Rattle.pg_meaning.specs.Typing.{Typed, typed, value_kind, unary_kind, binary_kind, agg_kind, unary_width, binary_width, agg_width, count_width}
use Rattle.pg_meaning.specs.Meaning.{Assignment, Scope, OfRow, OfVars, value_of}

-- WHAT AN EXPRESSION READS

-- the columns of a table that is changed, or the tables of a snapshot
pub data Frame : Type 0 where
  OfColumns : List ColumnShape → Frame
  OfTables : Shapes → Frame

abbrev pub column_at : List ColumnShape → ℕ → Option Typed
column_at columns c = option_map (λ s. typed s.kind) (slice_get columns c)

abbrev pub property_in : TableShape → Option ℕ → Option Typed
property_in table None = None
property_in table (Some c) = column_at table.columns c

-- the columns that are a property, of those tables that have it
abbrev pub property_columns : List TableShape → List (Option ℕ) → List Typed
property_columns [] places = []
property_columns (t ∷ tables) [] = []
property_columns (t ∷ tables) (c ∷ places) = cons_option (property_in t c) (property_columns tables places)

-- KINDS

abbrev pub column_kind : Frame → ℕ → Option Kind
column_kind (OfColumns columns) c = option_map (λ t. t.kind) (column_at columns c)
column_kind (OfTables shapes) c = None

abbrev pub first_kind : List Typed → Option Kind
first_kind [] = None
first_kind (t ∷ ts) = Some t.kind

abbrev pub property_kind : Frame → List (Option ℕ) → Option Kind
property_kind (OfColumns columns) places = None
property_kind (OfTables shapes) places = first_kind (property_columns shapes.tables places)

abbrev pub kind_in : Frame → CTree → Option Kind
kind_in frame (Literal v) = value_kind v
kind_in frame (ColumnAt c) = column_kind frame c
kind_in frame (PropertyOf x places) = property_kind frame places
kind_in frame (One op x) = Some (unary_kind op)
kind_in frame (Two op x y) = Some (binary_kind op)
kind_in frame (Group agg x) = agg_kind agg (kind_in frame x)
kind_in frame (Counted x) = Some kinds.Int

-- WIDTHS

-- a number's count of binary digits
abbrev pub literal_width : Value → ℕ
literal_width (Int n) = binary_digits (unsigned_abs n)
literal_width Null = 0
literal_width (Text t) = 0
literal_width (Truth' b) = 0

abbrev pub greatest_width : List Typed → ℕ
greatest_width [] = 0
greatest_width (t ∷ ts) = max t.width (greatest_width ts)

abbrev pub width_found : Option Typed → ℕ
width_found None = 0
width_found (Some t) = t.width

abbrev pub column_width : Frame → ℕ → ℕ
column_width (OfColumns columns) c = width_found (column_at columns c)
column_width (OfTables shapes) c = 0

abbrev pub property_width : Frame → List (Option ℕ) → ℕ
property_width (OfColumns columns) places = 0
property_width (OfTables shapes) places = greatest_width (property_columns shapes.tables places)

abbrev pub width_in : Frame → CTree → ℕ
width_in frame (Literal v) = literal_width v
width_in frame (ColumnAt c) = column_width frame c
width_in frame (PropertyOf x places) = property_width frame places
width_in frame (One op x) = unary_width op (width_in frame x)
width_in frame (Two op x y) = binary_width op (width_in frame x) (width_in frame y)
width_in frame (Group agg x) = agg_width agg (width_in frame x)
width_in frame (Counted x) = count_width

-- THE LAW OF WIDTHS

-- lists of a variable's elements that are no longer than aggregates reckon with
abbrev pub AreShort : Assignment → Type 0
AreShort f = (x : ℕ) → length (f x) < 2 ^ count_width

-- a row that fits its columns, or tables that fit their shapes and variables of short lists
abbrev pub Fit : Frame → Scope → Type 0
Fit (OfColumns columns) (OfRow row) = AllZip FitsColumn columns row.values
Fit (OfColumns columns) (OfVars tables f) = ⊥
Fit (OfTables shapes) (OfRow row) = ⊥
Fit (OfTables shapes) (OfVars tables f) = FitTables shapes tables × AreShort f

-- a number is at most two to the width in size
abbrev pub IsWithin : ℕ → Value → Type 0
IsWithin width (Int n) = unsigned_abs n ≤ 2 ^ width
IsWithin width Null = Unit {0}
IsWithin width (Text t) = Unit {0}
IsWithin width (Truth' b) = Unit {0}

-- the value of an expression is within its width, over everything that fits what it reads
abbrev pub ValuesAreWithin : Type 0
ValuesAreWithin = (frame : Frame) (scope : Scope) (x : CTree) → Fit frame scope → IsWithin (width_in frame x) (value_of x scope)
