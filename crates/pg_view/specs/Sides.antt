-- What a view of lists has built of the edges of its edge tables.
use Rattle.std.specs.Prelude.{List, IfSome, slice_get}
use Rattle.std.specs.declared.option.Option.{Option}
use Rattle.std.specs.declared.option.Option.TheVariants.{Some, None}
use Rattle.pg_value.specs.declared.value.Dir.{Dir}
use Rattle.pg_value.specs.declared.shape.EdgeNo.{EdgeNo}
use Rattle.pg_adj.specs.declared.group.Group.{Group}
use Rattle.std.specs.List.{AllZip}
use Rattle.pg_value.specs.declared.value.Dir.TheVariants.{Out, In}
use Rattle.pg_value.specs.declared.shape.EdgeShape.{EdgeShape}
use Rattle.pg_value.specs.Tables.{Stored}
use Rattle.pg_adj.specs.Groups.{AreGroups}
use Rattle.pg_view.specs.declared.sides.Sides.{Sides}
use Rattle.pg_view.specs.RowEnds.{all_ends}
use Rattle.pg_view.specs.Lists.{rows_in}

-- what is built are the edges of the edge table
pub record IsSides (lists : List (List Stored)) (shape : EdgeShape) (s : Sides) : Type 0 where
  pub out : IfSome s.out (AreGroups Out (all_ends shape (rows_in lists shape.table)))
  pub into : IfSome s.into (AreGroups In (all_ends shape (rows_in lists shape.table)))

abbrev pub AreSides : List (List Stored) → List EdgeShape → List Sides → Type 0
AreSides lists shapes sides = AllZip (IsSides lists) shapes sides

abbrev pub side : Dir → Option Sides → Option (List Group)
side dir None = None
side Out (Some s) = s.out
side In (Some s) = s.into

-- what is built of an edge table at that end
abbrev pub side_at : List Sides → EdgeNo → Dir → Option (List Group)
side_at sides edge dir = side dir (slice_get sides edge.0)
