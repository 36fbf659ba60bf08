-- The conditions of evaluation: the expression was checked for what it is judged over.
use Rattle.std.specs.Prelude.{◌≡◌, ◌⊎◌, List, []}
use Rattle.std.specs.List.{AllZip}
use Rattle.pg_value.specs.declared.row.Row.{Row}
use Rattle.pg_value.specs.declared.shape.ColumnShape.{ColumnShape}
use Rattle.pg_value.specs.declared.shape.Shapes.{Shapes}
use Rattle.pg_value.specs.Tables.{Tables, FitsColumn}
use Rattle.pg_meaning.specs.declared.checked.Bound.{Bound}
use Rattle.pg_meaning.specs.declared.checked.CExpr.{CExpr}
use Rattle.pg_meaning.specs.Sound.Kinds.{OfColumns, OfTables}
use Rattle.pg_meaning.specs.Sound.{Degrees, IsSoundExpr}
use Rattle.pg_meaning.specs.Sound.Changes.{no_variables}
use Rattle.pg_meaning.specs.Sound.Queries.{FitsBound}

-- sound over columns that the row's values fit, or over no columns
pub record IsCheckedForRow (row : Row) (e : CExpr) : Type 0 where
  pub columns : List ColumnShape
  pub sound : IsSoundExpr (OfColumns columns) no_variables e
  pub fits : AllZip FitsColumn columns row.values ⊎ (columns ≡ [])

-- sound over the shapes for variables that stand for what fits them
pub record IsCheckedForBound (shapes : Shapes) (tables : Tables) (bound : Bound) (e : CExpr) : Type 0 where
  pub degrees : Degrees
  pub sound : IsSoundExpr (OfTables shapes) degrees e
  pub fits : FitsBound degrees tables bound

-- sound over the shapes for variables of which each stands for at most one element
pub record IsCheckedForOnes (shapes : Shapes) (e : CExpr) : Type 0 where
  pub degrees : Degrees
  pub sound : IsSoundExpr (OfTables shapes) degrees e
