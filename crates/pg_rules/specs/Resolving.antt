-- What resolving an expression keeps: a checked expression has the kind and the width of the one that is written, over columns that stand
-- in a change, and over any names in a query.
use Rattle.std.specs.Prelude.{◌≡◌, true, is_some, List, map}
use Rattle.pg_value.specs.declared.shape.ColumnShape.{ColumnShape}
use Rattle.pg_value.specs.declared.shape.GraphNo.{GraphNo}
use Rattle.pg_ast.specs.declared.expr.Name.{Name}
use Rattle.pg_ast.specs.Trees.{ExprTree, Literal, Wide, ColumnOf, PropertyOf, One, Two, Group, Counted}
use Rattle.pg_meaning.specs.CExprs.{ctree_of}
use Rattle.pg_meaning.specs.Typing.{kind_of, width_of}
use Rattle.pg_meaning.specs.Sound.Kinds.{OfColumns, OfTables, literal_width, kind_in, width_in}
use Rattle.pg_rules.specs.declared.entry.ColumnEntry.{ColumnEntry}
use Rattle.pg_rules.specs.Catalog.{Defined}
use Rattle.pg_rules.specs.Catalog.LookUps.{column_place}
use Rattle.pg_rules.specs.Catalog.GraphLookUps.{graph_numbered}
use Rattle.pg_rules.specs.Catalog.Shapes.{shapes}
use Rattle.pg_rules.specs.Catalog.Sound.{IsSound}
use Rattle.pg_rules.specs.Changes.InsertJudgement.{resolved}
use Rattle.pg_rules.specs.Changes.{names_of}
use Rattle.pg_rules.specs.Queries as queries
use Rattle.pg_rules.specs.Queries.CheckedQueries.{checked_tree}

-- a literal's bits are its number's binary digits, and a value holds each number
abbrev pub HasDigits : ExprTree → Type 0
HasDigits (Literal v bits at) = bits ≡ literal_width v
HasDigits (Wide at) = ⊥
HasDigits (ColumnOf n) = Unit {0}
HasDigits (PropertyOf v n) = Unit {0}
HasDigits (One op x at) = HasDigits x
HasDigits (Two op x y at) = HasDigits x × HasDigits y
HasDigits (Group agg x at) = HasDigits x
HasDigits (Counted v at) = Unit {0}

-- it names columns that stand, and no variables
abbrev pub IsOfColumns : List ColumnEntry → ExprTree → Type 0
IsOfColumns columns (Literal v bits at) = Unit {0}
IsOfColumns columns (Wide at) = Unit {0}
IsOfColumns columns (ColumnOf n) = is_some (column_place columns n.text) ≡ true
IsOfColumns columns (PropertyOf v n) = ⊥
IsOfColumns columns (One op x at) = IsOfColumns columns x
IsOfColumns columns (Two op x y at) = IsOfColumns columns x × IsOfColumns columns y
IsOfColumns columns (Group agg x at) = ⊥
IsOfColumns columns (Counted v at) = ⊥

abbrev pub shapes_of : List ColumnEntry → List ColumnShape
shapes_of columns = map (λ c. c.shape) columns

-- THE LAW, OF CHANGES

pub record ResolvingKeeps : Type 0 where
  pub kind : (columns : List ColumnEntry) (t : ExprTree) → HasDigits t → IsOfColumns columns t
      → kind_in (OfColumns (shapes_of columns)) (ctree_of (resolved columns t)) ≡ kind_of (names_of columns) t
  pub width : (columns : List ColumnEntry) (t : ExprTree) → HasDigits t → IsOfColumns columns t
      → width_in (OfColumns (shapes_of columns)) (ctree_of (resolved columns t)) ≡ width_of (names_of columns) t

-- THE LAW, OF QUERIES

-- over a graph of a sound catalog, also where names stand for nothing
pub record QueryResolvingKeeps : Type 0 where
  pub kind : (d : Defined) (g : GraphNo) (variables : List Name) (t : ExprTree) → IsSound d → HasDigits t
      → kind_in (OfTables (shapes d)) (ctree_of (checked_tree d g variables t)) ≡ kind_of (queries.names_of (graph_numbered d.1 g)) t
  pub width : (d : Defined) (g : GraphNo) (variables : List Name) (t : ExprTree) → IsSound d → HasDigits t
      → width_in (OfTables (shapes d)) (ctree_of (checked_tree d g variables t)) ≡ width_of (queries.names_of (graph_numbered d.1 g)) t
