-- Where INSERT is refused before it reads the tables: for each kind of fault its places, and the checked change where there is none.
use Rattle.std.specs.Prelude.{ℕ, not, ◌==◌, List, [], ◌∷◌, ◌++◌, map, length}
use Rattle.std.specs.declared.option.Option.{Option}
use Rattle.std.specs.declared.option.Option.TheVariants.{Some, None}
use Rattle.std.specs.List.{flat_map, range_with_len}
use Rattle.pg_value.specs.declared.value.Kind.{Kind}
use Rattle.pg_value.specs.declared.value.Value.TheVariants.{Null}
use Rattle.pg_ast.specs.declared.expr.Name.{Name}
use Rattle.pg_ast.specs.declared.expr.Whole.{Whole}
use Rattle.pg_ast.specs.declared.statement.Insert.{Insert}
use Rattle.pg_ast.specs.declared.statement.InsertTuple.{InsertTuple}
use Rattle.pg_meaning.specs.declared.checked.CExpr.{CExpr}
use Rattle.pg_meaning.specs.declared.checked.CExpr.TheVariants as checked
use Rattle.pg_meaning.specs.declared.checked.CheckedChange.{CheckedChange}
use Rattle.pg_meaning.specs.declared.checked.CheckedChange.TheVariants as changes
use Rattle.pg_rules.specs.declared.entry.ColumnEntry.{ColumnEntry}
use Rattle.pg_rules.specs.declared.fault.ResolveFault.{ResolveFault}
use Rattle.pg_rules.specs.declared.fault.ResolveFault.TheVariants as faults
use Rattle.pg_ast.specs.Trees.{ExprTree, tree_of, Literal, Wide, ColumnOf, PropertyOf, One, Two, Group, Counted}
use Rattle.pg_rules.specs.Catalog.{Tables}
use Rattle.pg_rules.specs.Catalog.LookUps.{columns_named}
use Rattle.pg_rules.specs.Places.{place_if, first_fault}
use Rattle.pg_rules.specs.Definitions.Tables.{repeats, place_of}
use Rattle.pg_rules.specs.Definitions.Entries.{kind_at, number_of}
use Rattle.pg_rules.specs.Definitions.Graphs.{missing, no_such}
use Rattle.pg_meaning.specs.Typing.{kind_of, may_be, no_names}
use Rattle.pg_rules.specs.ExprFaults.{types_at, wide_at}

-- the columns that are named; none is named where all are meant
abbrev pub listed : Option (List Name) → List Name
listed None = []
listed (Some names) = names

abbrev pub no_column : Tables → Insert → List ℕ
no_column tables i = missing (columns_named tables i.table.text) (listed i.columns)

-- the later of two equal names
abbrev pub column_twice : Insert → List ℕ
column_twice i = repeats (listed i.columns)

-- the places of the columns that get values, in the order of a tuple's values: those that are named, or all
abbrev pub targets_in : List ColumnEntry → Option (List Name) → List ℕ
targets_in columns None = range_with_len 0 (length columns)
targets_in columns (Some names) = map (place_of columns) names

abbrev pub targets : Tables → Insert → List ℕ
targets tables i = targets_in (columns_named tables i.table.text) i.columns

-- the tuples that have not one value for each such column
abbrev pub count : Tables → Insert → List ℕ
count tables i = flat_map (λ t. place_if (not (length t.values == length (targets tables i))) t.at) i.tuples

-- in a value for a column of this kind: the value as a whole, and what is wrong inside it
abbrev pub wrong_value : Kind → Whole → List ℕ
wrong_value kind w = place_if (not (may_be kind (kind_of no_names (tree_of w.expr)))) w.at ++ types_at no_names (tree_of w.expr)

-- the values of a tuple, each with its column
abbrev pub wrong_values : List ColumnEntry → List ℕ → List Whole → List ℕ
wrong_values columns [] ws = []
wrong_values columns (p ∷ ps) [] = []
wrong_values columns (p ∷ ps) (w ∷ ws) = wrong_value (kind_at columns p) w ++ wrong_values columns ps ws

abbrev pub types : Tables → Insert → List ℕ
types tables i = flat_map (λ t. wrong_values (columns_named tables i.table.text) (targets tables i) t.values) i.tuples

abbrev pub wide : Insert → List ℕ
wide i = flat_map (λ t. flat_map (λ w. wide_at no_names (tree_of w.expr)) t.values) i.tuples

-- THE KINDS IN ORDER, WITH THEIR PLACES

abbrev pub insert_fault : Tables → Insert → Option ResolveFault
insert_fault tables i = first_fault (
    (faults.NoTable, no_such tables i.table) ∷
    (faults.NoColumn, no_column tables i) ∷
    (faults.ColumnTwice, column_twice i) ∷
    (faults.Count, count tables i) ∷
    (faults.Types, types tables i) ∷
    (faults.Wide, wide i) ∷ [])

-- THE CHECKED CHANGE

-- an expression of a change over the columns of its table; what no change has in it stands for NULL
abbrev pub resolved : List ColumnEntry → ExprTree → CExpr
resolved columns (Literal v bits at) = checked.Lit v
resolved columns (Wide at) = checked.Lit Null
resolved columns (ColumnOf n) = checked.Column (place_of columns n)
resolved columns (PropertyOf v n) = checked.Lit Null
resolved columns (One op x at) = checked.Unary op (resolved columns x)
resolved columns (Two op x y at) = checked.Binary op (resolved columns x) (resolved columns y)
resolved columns (Group agg x at) = checked.Lit Null
resolved columns (Counted v at) = checked.Lit Null

abbrev pub resolved_tuple : InsertTuple → List CExpr
resolved_tuple t = map (λ w. resolved [] (tree_of w.expr)) t.values

abbrev pub resolved_insert : Tables → Insert → CheckedChange
resolved_insert tables i = changes.Insert (number_of tables i.table.text) (targets tables i) (map resolved_tuple i.tuples)
