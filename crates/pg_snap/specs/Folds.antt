-- The vertices of an edge table whose edges a run changes.
use Rattle.std.specs.Prelude.{◌≡◌, true, is_some, List, slice_get}
use Rattle.std.specs.declared.option.Option.{Option}
use Rattle.std.specs.declared.option.Option.TheVariants.{Some, None}
use Rattle.pg_keyed.specs.Keyed.{Each, get}
use Rattle.pg_value.specs.declared.value.Value.{Value}
use Rattle.pg_value.specs.declared.value.Dir.{Dir}
use Rattle.pg_value.specs.declared.write.Write.{Write}
use Rattle.pg_value.specs.Order.{key_cmp}
use Rattle.pg_value.specs.TablesLaws.{stored_in}
use Rattle.pg_adj.specs.declared.ends.EdgeEnds.{EdgeEnds}
use Rattle.pg_adj.specs.declared.group.Group.{Group}
use Rattle.pg_adj.specs.Entries.{entry}
use Rattle.pg_adj.specs.Groups.{group_at}
use Rattle.pg_view.specs.Lists.{rows_in}
use Rattle.pg_run.specs.Cuts.{ends_if, write_ends}
use Rattle.pg_snap.specs.declared.vertex.Side.{Side}
use Rattle.pg_snap.specs.declared.vertex.Vertex.{Vertex}
use Rattle.pg_snap.specs.declared.fold.Fold.{Fold}
use Rattle.pg_snap.specs.Under.{AsMany, grouped, under_run}
use Rattle.pg_snap.specs.Sides.{vertex_key, sides_at}

-- a vertex stands among some
abbrev pub Has : List Value → List Vertex → Type 0
Has k vs = is_some (get vertex_key key_cmp k vs) ≡ true

-- so does the one at that end of an edge
abbrev pub HasEnd : Dir → Option EdgeEnds → List Vertex → Type 0
HasEnd dir None vs = Unit {0}
HasEnd dir (Some e) vs = Has (entry dir e).vertex.values vs

-- some more vertices of a kind, beside those that were there
pub record AreMore (P : Vertex → Type 0) (old new : List Vertex) : Type 0 where
  pub each : Each P old → Each P new
  pub kept : (k : List Value) → Has k old → Has k new

-- a vertex with the edges of its group
abbrev pub IsGrouped : List Group → Vertex → Type 0
IsGrouped groups v = v.sides ≡ grouped (group_at v.key.values groups)

-- the vertices at that end of edges, each with its group
pub record Gathered (dir : Dir) (groups : List Group) (ends : List EdgeEnds) (vs : List Vertex) : Type 0 where
  pub each : Each (IsGrouped groups) vs
  pub there : Each (λ e. Has (entry dir e).vertex.values vs) ends

-- each group has the other ends of its edges
abbrev pub AreAsMany : List Group → Type 0
AreAsMany groups = (k : List Value) → AsMany (group_at k groups)

-- the run was made for shapes in which the edge table has this number
abbrev pub HasShape : Fold → Type 0
HasShape f = slice_get f.run.now.shapes.edges f.edge.0 ≡ Some f.shape.now

-- the edges at a vertex under the run
abbrev pub new_sides : Fold → List Value → List Side
new_sides f k = under_run f.edge f.dir k f.shape.now.table (sides_at k f.old.now) f.run.now

abbrev pub IsNew : Fold → Vertex → Type 0
IsNew f v = v.sides ≡ new_sides f v.key.values

-- the ends of the row that a write takes the place of
abbrev pub old_ends : Fold → Write → Option EdgeEnds
old_ends f w = ends_if f.shape.now (stored_in w.key.values (rows_in f.rows.now f.shape.now.table))

-- the vertices at that end of this row, and of the row that the write gives, stand among some
abbrev pub HasBoth : Fold → List Vertex → Write → Type 0
HasBoth f vs w = HasEnd f.dir (old_ends f w) vs × HasEnd f.dir (write_ends f.shape.now w) vs
