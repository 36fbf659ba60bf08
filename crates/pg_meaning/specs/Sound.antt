-- Sound checked expressions: the columns that they read stand, their variables may stand where they do, operators and aggregates meet
-- kinds that they take, and no part is too wide. Evaluation may rely on this.
pub mod Kinds
pub mod Graphs
pub mod Patterns
pub mod Queries
pub mod Changes
pub mod Bindings
use Rattle.std.specs.Prelude.{ℕ, ◌≡◌, ◌<◌, ◌≤◌, true, List, length, Contains, Option, Some, IfSome}
use Rattle.std.specs.List.{AllZip}
use Rattle.pg_value.specs.declared.value.Kind.{Kind}
use Rattle.pg_value.specs.declared.value.Kind.TheVariants as kinds
use Rattle.pg_value.specs.declared.shape.TableShape.{TableShape}
use Rattle.pg_meaning.specs.declared.checked.CExpr.{CExpr}
use Rattle.pg_meaning.specs.CExprs.{CTree, Literal, ColumnAt, PropertyOf, One, Two, Group, Counted, ctree_of}
use Rattle.pg_meaning.specs.Typing.{Typed, may_be, unary_takes, binary_takes, agg_takes, widest}
use Rattle.pg_meaning.specs.Meaning.{vars_of}
use Rattle.pg_meaning.specs.Mentions.{Degree, Singleton, Grouped}
use Rattle.pg_meaning.specs.Sound.Kinds.{Frame, OfColumns, OfTables, property_columns, kind_in, width_in}

-- WHAT IS READ

-- a place for each table, which stands in it where it has the property, and columns of one kind
pub record IsProperty (tables : List TableShape) (places : List (Option ℕ)) : Type 0 where
  pub stand : AllZip (λ t place. IfSome place (λ c. c < length t.columns)) tables places
  pub one_kind : (a b : Typed) → Contains (property_columns tables places) a → Contains (property_columns tables places) b → a.kind ≡ b.kind

abbrev pub IsColumnIn : Frame → ℕ → Type 0
IsColumnIn (OfColumns columns) c = c < length columns
IsColumnIn (OfTables shapes) c = ⊥

abbrev pub IsPropertyIn : Frame → List (Option ℕ) → Type 0
IsPropertyIn (OfColumns columns) places = ⊥
IsPropertyIn (OfTables shapes) places = IsProperty shapes.tables places

-- its columns and properties stand
abbrev pub Reads : Frame → CTree → Type 0
Reads frame (Literal v) = Unit {0}
Reads frame (ColumnAt c) = IsColumnIn frame c
Reads frame (PropertyOf x places) = IsPropertyIn frame places
Reads frame (One op x) = Reads frame x
Reads frame (Two op x y) = Reads frame x × Reads frame y
Reads frame (Group agg x) = Reads frame x
Reads frame (Counted x) = Unit {0}

-- VARIABLES

-- what a variable stands for where an expression stands, none where it may not stand there
abbrev pub Degrees : Type 0
Degrees = ℕ → Option Degree

-- no aggregate stands in it, and no other variable
abbrev pub IsOf : ℕ → CTree → Type 0
IsOf v (Literal u) = Unit {0}
IsOf v (ColumnAt c) = Unit {0}
IsOf v (PropertyOf x places) = x ≡ v
IsOf v (One op x) = IsOf v x
IsOf v (Two op x y) = IsOf v x × IsOf v y
IsOf v (Group agg x) = ⊥
IsOf v (Counted x) = ⊥

-- the argument of an aggregate: of one variable, which is a group variable
pub record IsArgument (degrees : Degrees) (x : CTree) : Type 0 where
  pub variable : ℕ
  pub grouped : degrees variable ≡ Some Grouped
  pub stands : Contains (vars_of x) variable
  pub alone : IsOf variable x

-- a singleton outside aggregates, and group variables inside
abbrev pub Binds : Degrees → CTree → Type 0
Binds degrees (Literal v) = Unit {0}
Binds degrees (ColumnAt c) = Unit {0}
Binds degrees (PropertyOf x places) = degrees x ≡ Some Singleton
Binds degrees (One op x) = Binds degrees x
Binds degrees (Two op x y) = Binds degrees x × Binds degrees y
Binds degrees (Group agg x) = IsArgument degrees x
Binds degrees (Counted x) = degrees x ≡ Some Grouped

-- KINDS AND WIDTHS

-- operators and aggregates meet kinds that they take
abbrev pub IsTyped : Frame → CTree → Type 0
IsTyped frame (Literal v) = Unit {0}
IsTyped frame (ColumnAt c) = Unit {0}
IsTyped frame (PropertyOf x places) = Unit {0}
IsTyped frame (One op x) = (unary_takes op (kind_in frame x) ≡ true) × IsTyped frame x
IsTyped frame (Two op x y) = (binary_takes op (kind_in frame x) (kind_in frame y) ≡ true) × IsTyped frame x × IsTyped frame y
IsTyped frame (Group agg x) = (agg_takes agg (kind_in frame x) ≡ true) × IsTyped frame x
IsTyped frame (Counted x) = Unit {0}

-- neither it nor a part of it is too wide
abbrev pub IsNarrow : Frame → CTree → Type 0
IsNarrow frame (Literal v) = width_in frame (Literal v) ≤ widest
IsNarrow frame (ColumnAt c) = width_in frame (ColumnAt c) ≤ widest
IsNarrow frame (PropertyOf x places) = width_in frame (PropertyOf x places) ≤ widest
IsNarrow frame (One op x) = (width_in frame (One op x) ≤ widest) × IsNarrow frame x
IsNarrow frame (Two op x y) = (width_in frame (Two op x y) ≤ widest) × IsNarrow frame x × IsNarrow frame y
IsNarrow frame (Group agg x) = (width_in frame (Group agg x) ≤ widest) × IsNarrow frame x
IsNarrow frame (Counted x) = width_in frame (Counted x) ≤ widest

-- SOUND EXPRESSIONS

pub record IsSoundTree (frame : Frame) (degrees : Degrees) (x : CTree) : Type 0 where
  pub reads : Reads frame x
  pub binds : Binds degrees x
  pub typed : IsTyped frame x
  pub narrow : IsNarrow frame x

abbrev pub IsSoundExpr : Frame → Degrees → CExpr → Type 0
IsSoundExpr frame degrees e = IsSoundTree frame degrees (ctree_of e)

-- a value for a column or a condition of this kind
pub record IsSoundOf (kind : Kind) (frame : Frame) (degrees : Degrees) (e : CExpr) : Type 0 where
  pub sound : IsSoundExpr frame degrees e
  pub of_kind : may_be kind (kind_in frame (ctree_of e)) ≡ true

-- a condition, where there is one
abbrev pub IsSoundCondition : Frame → Degrees → Option CExpr → Type 0
IsSoundCondition frame degrees condition = IfSome condition (λ c. IsSoundOf kinds.Bool frame degrees c)
