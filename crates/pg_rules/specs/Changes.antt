-- Which changes are refused before they read the tables, and where: for each kind of fault its places, for INSERT, UPDATE and DELETE, and
-- the checked change where there is none.
pub mod ChangeEffect
pub mod InsertEffect
pub mod InsertJudgement
use Rattle.std.specs.Prelude.{ℕ, ◌≡◌, ◌==◌, Bool, not, List, [], ◌∷◌, ◌++◌, map, flat_map, Option, Some, None, option_map, option_to_list, find}
use Rattle.std.specs.List.{list_any}
use Rattle.std.specs.Str.{bytes_eq}
use Rattle.pg_value.specs.declared.value.Kind.{Kind}
use Rattle.pg_value.specs.declared.value.Kind.TheVariants as kinds
use Rattle.pg_ast.specs.declared.expr.Name.{Name}
use Rattle.pg_ast.specs.declared.expr.Whole.{Whole}
use Rattle.pg_ast.specs.declared.statement.Insert.{Insert}
use Rattle.pg_ast.specs.declared.statement.Update.{Update}
use Rattle.pg_ast.specs.declared.statement.Delete.{Delete}
use Rattle.pg_ast.specs.declared.statement.SetItem.{SetItem}
use Rattle.pg_ast.specs.declared.statement.Statement.{Statement}
use Rattle.pg_ast.specs.declared.statement.Statement.TheVariants as statements
use Rattle.pg_ast.specs.Trees.{ExprTree, tree_of, Literal, Wide, ColumnOf, PropertyOf, One, Two, Group, Counted}
use Rattle.pg_meaning.specs.declared.checked.CExpr.{CExpr}
use Rattle.pg_meaning.specs.declared.checked.CheckedSet.{CheckedSet}
use Rattle.pg_meaning.specs.declared.checked.CheckedChange.{CheckedChange}
use Rattle.pg_meaning.specs.declared.checked.CheckedChange.TheVariants as changes
use Rattle.pg_meaning.specs.Typing.{Names, typed, kind_of, may_be}
use Rattle.pg_rules.specs.declared.entry.ColumnEntry.{ColumnEntry}
use Rattle.pg_rules.specs.declared.fault.ResolveFault.{ResolveFault}
use Rattle.pg_rules.specs.declared.fault.ResolveFault.TheVariants as faults
use Rattle.pg_rules.specs.Catalog.{Tables}
use Rattle.pg_rules.specs.Catalog.LookUps.{columns_named, key_named}
use Rattle.pg_rules.specs.Places.{place_if, first_fault}
use Rattle.pg_rules.specs.Definitions.Tables.{repeats, place_of}
use Rattle.pg_rules.specs.Definitions.Entries.{kind_at, number_of}
use Rattle.pg_rules.specs.Definitions.Graphs.{missing, no_such}
use Rattle.pg_rules.specs.ExprFaults.{types_at, wide_at}
use Rattle.pg_rules.specs.Changes.InsertJudgement as inserts
use Rattle.pg_rules.specs.Changes.InsertJudgement.{resolved, resolved_insert, insert_fault}

-- CHANGES

pub data Change : Type 0 where
  OfInsert : Insert → Change
  OfUpdate : Update → Change
  OfDelete : Delete → Change

-- the change that a statement is
abbrev pub change_of : Statement → Option Change
change_of (statements.Insert i) = Some (OfInsert i)
change_of (statements.Update u) = Some (OfUpdate u)
change_of (statements.Delete x) = Some (OfDelete x)
change_of (statements.Define x) = None
change_of statements.Begin = None
change_of statements.Commit = None
change_of statements.Rollback = None
change_of (statements.Query q) = None

abbrev pub table_of : Change → Name
table_of (OfInsert i) = i.table
table_of (OfUpdate u) = u.table
table_of (OfDelete x) = x.table

-- the columns of the table that is changed, none where it does not exist
abbrev pub columns_of : Tables → Change → List ColumnEntry
columns_of tables c = columns_named tables (table_of c).text

-- NAMES

-- the columns that an expression names
abbrev pub columns_in : ExprTree → List Name
columns_in (Literal v bits at) = []
columns_in (Wide at) = []
columns_in (ColumnOf n) = n ∷ []
columns_in (PropertyOf v n) = []
columns_in (One op x at) = columns_in x
columns_in (Two op x y at) = columns_in x ++ columns_in y
columns_in (Group agg x at) = columns_in x
columns_in (Counted v at) = []

abbrev pub named_in : Whole → List Name
named_in w = columns_in (tree_of w.expr)

abbrev pub named_in_condition : Option Whole → List Name
named_in_condition condition = flat_map named_in (option_to_list condition)

-- all columns that a change names
abbrev pub names_in : Change → List Name
names_in (OfInsert i) = inserts.listed i.columns
names_in (OfUpdate u) = flat_map (λ s. s.column ∷ named_in s.value) u.sets ++ named_in_condition u.cond
names_in (OfDelete x) = named_in_condition x.cond

-- the columns that get values, where they are named
abbrev pub given_names : Change → List Name
given_names (OfInsert i) = inserts.listed i.columns
given_names (OfUpdate u) = map (λ s. s.column) u.sets
given_names (OfDelete x) = []

abbrev pub no_column : Tables → Change → List ℕ
no_column tables c = missing (columns_of tables c) (names_in c)

abbrev pub column_twice : Change → List ℕ
column_twice c = repeats (given_names c)

abbrev pub count : Tables → Change → List ℕ
count tables (OfInsert i) = inserts.count tables i
count tables (OfUpdate u) = []
count tables (OfDelete x) = []

abbrev pub is_place : ℕ → List ℕ → Bool
is_place place places = list_any (λ p. p == place) places

-- the key columns that SET names
abbrev pub key_update : Tables → Change → List ℕ
key_update tables (OfInsert i) = []
key_update tables (OfUpdate u) =
    flat_map (λ s. place_if (is_place (place_of (columns_named tables u.table.text) s.column) (key_named tables u.table.text)) s.column.at) u.sets
key_update tables (OfDelete x) = []

-- KINDS AND WIDTHS

-- the columns of a table by their names
abbrev pub names_of : List ColumnEntry → Names
names_of columns None name = option_map (λ c. typed c.shape.kind) (find (λ c. bytes_eq name c.name) columns)
names_of columns (Some variable) name = None

-- a value or a condition that is to have a kind: as a whole, and what is wrong inside it
abbrev pub wrong : Names → Kind → Whole → List ℕ
wrong names kind w = place_if (not (may_be kind (kind_of names (tree_of w.expr)))) w.at ++ types_at names (tree_of w.expr)

abbrev pub wrong_condition : Names → Option Whole → List ℕ
wrong_condition names condition = flat_map (wrong names kinds.Bool) (option_to_list condition)

-- the value of a column in SET
abbrev pub wrong_set : List ColumnEntry → SetItem → List ℕ
wrong_set columns s = wrong (names_of columns) (kind_at columns (place_of columns s.column)) s.value

abbrev pub types : Tables → Change → List ℕ
types tables (OfInsert i) = inserts.types tables i
types tables (OfUpdate u) = flat_map (wrong_set (columns_named tables u.table.text)) u.sets ++ wrong_condition (names_of (columns_named tables u.table.text)) u.cond
types tables (OfDelete x) = wrong_condition (names_of (columns_named tables x.table.text)) x.cond

abbrev pub wide_in : Names → Whole → List ℕ
wide_in names w = wide_at names (tree_of w.expr)

abbrev pub wide : Tables → Change → List ℕ
wide tables (OfInsert i) = inserts.wide i
wide tables (OfUpdate u) =
    flat_map (λ s. wide_in (names_of (columns_named tables u.table.text)) s.value) u.sets
    ++ flat_map (wide_in (names_of (columns_named tables u.table.text))) (option_to_list u.cond)
wide tables (OfDelete x) = flat_map (wide_in (names_of (columns_named tables x.table.text))) (option_to_list x.cond)

-- THE KINDS IN ORDER, WITH THEIR PLACES

abbrev pub change_fault : Tables → Change → Option ResolveFault
change_fault tables c = first_fault (
    (faults.NoTable, no_such tables (table_of c)) ∷
    (faults.NoColumn, no_column tables c) ∷
    (faults.ColumnTwice, column_twice c) ∷
    (faults.Count, count tables c) ∷
    (faults.KeyUpdate, key_update tables c) ∷
    (faults.Types, types tables c) ∷
    (faults.Wide, wide tables c) ∷ [])

-- THE CHECKED CHANGE

abbrev pub resolved_condition : List ColumnEntry → Option Whole → Option CExpr
resolved_condition columns condition = option_map (λ w. resolved columns (tree_of w.expr)) condition

abbrev pub resolved_set : List ColumnEntry → SetItem → CheckedSet
resolved_set columns s = record { column = place_of columns s.column; value = resolved columns (tree_of s.value.expr) }

abbrev pub resolved_change : Tables → Change → CheckedChange
resolved_change tables (OfInsert i) = resolved_insert tables i
resolved_change tables (OfUpdate u) =
    changes.Update (number_of tables u.table.text) (map (resolved_set (columns_named tables u.table.text)) u.sets) (resolved_condition (columns_named tables u.table.text) u.cond)
resolved_change tables (OfDelete x) = changes.Delete (number_of tables x.table.text) (resolved_condition (columns_named tables x.table.text) x.cond)

-- THE LAW

-- of an INSERT it says the same as the judgement of INSERT alone
pub record InsertsAgree : Type 0 where
  pub fault : (tables : Tables) (i : Insert) → change_fault tables (OfInsert i) ≡ insert_fault tables i
  pub checked : (tables : Tables) (i : Insert) → resolved_change tables (OfInsert i) ≡ resolved_insert tables i
