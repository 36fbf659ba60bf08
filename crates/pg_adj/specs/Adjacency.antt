-- The edges of edge tables by their ends.
use Rattle.std.specs.Prelude.{List, [], slice_get}
use Rattle.std.specs.declared.option.Option.{Option}
use Rattle.std.specs.declared.option.Option.TheVariants.{Some, None}
use Rattle.pg_value.specs.declared.value.Dir.{Dir}
use Rattle.pg_value.specs.declared.value.Dir.TheVariants.{Out, In}
use Rattle.pg_value.specs.declared.shape.EdgeNo.{EdgeNo}
use Rattle.pg_adj.specs.declared.ends.EdgeEnds.{EdgeEnds}
use Rattle.pg_adj.specs.declared.group.Group.{Group}
use Rattle.pg_adj.specs.declared.adj.BothEnds.{BothEnds}
use Rattle.pg_adj.specs.Groups.{AreGroups}

-- the edges of a list, by their sources and by their destinations
pub record AreBoth (ends : List EdgeEnds) (both : BothEnds) : Type 0 where
  pub out : AreGroups Out ends both.out
  pub into : AreGroups In ends both.into

abbrev pub side : Dir → BothEnds → List Group
side Out both = both.out
side In both = both.into

abbrev pub side_of : Dir → Option BothEnds → List Group
side_of dir None = []
side_of dir (Some both) = side dir both

-- the groups of an edge table at that end; none beyond the edge tables
abbrev pub groups_of : List BothEnds → EdgeNo → Dir → List Group
groups_of tables edge dir = side_of dir (slice_get tables edge.0)
