-- The edges of an edge table by the vertices at one of their ends, as a base keeps them.
use Rattle.std.specs.Prelude.{◌≡◌, ◌<◌, ◌≤◌, List, [], ◌∷◌, length}
use Rattle.std.specs.declared.option.Option.{Option}
use Rattle.std.specs.declared.option.Option.TheVariants.{Some, None}
use Rattle.std.specs.List.{AllZip}
use Rattle.pg_keyed.specs.Keyed.{Each, get}
use Rattle.pg_value.specs.declared.value.Value.{Value}
use Rattle.pg_value.specs.declared.value.Dir.{Dir}
use Rattle.pg_value.specs.declared.value.Dir.TheVariants.{Out, In}
use Rattle.pg_value.specs.declared.shape.EdgeShape.{EdgeShape}
use Rattle.pg_value.specs.Order.{key_cmp}
use Rattle.pg_value.specs.Tables.{Tables}
use Rattle.pg_adj.specs.declared.ends.EdgeEnds.{EdgeEnds}
use Rattle.pg_adj.specs.Entries.{entries_at}
use Rattle.pg_snap.specs.declared.vertex.Side.{Side}
use Rattle.pg_snap.specs.declared.vertex.Vertex.{Vertex}
use Rattle.pg_snap.specs.declared.sides.BothSides.{BothSides}
use Rattle.pg_snap.specs.Bases.{ends_held}
use Rattle.pg_snap.specs.Under.{sides_of}

abbrev pub vertex_key : Vertex → List Value
vertex_key v = v.key.values

abbrev pub sides_in : Option Vertex → List Side
sides_in None = []
sides_in (Some v) = v.sides

-- the edges at a vertex
abbrev pub sides_at : List Value → List Vertex → List Side
sides_at k vs = sides_in (get vertex_key key_cmp k vs)

-- a vertex, where it has edges
abbrev pub if_any : List Side → Vertex → Option Vertex
if_any [] v = None
if_any (s ∷ sides) v = Some v

abbrev pub with_edges : Vertex → Option Vertex
with_edges v = if_any v.sides v

-- Vertices, none of them without edges: at each key the edges that have it at that end, in the order in which they stand.
pub record AreSides (dir : Dir) (ends : List EdgeEnds) (vs : List Vertex) : Type 0 where
  pub full : Each (λ v. 0 < length v.sides) vs
  pub few : length vs ≤ length ends
  pub at : (k : List Value) → sides_at k vs ≡ sides_of (entries_at dir k ends)

-- so by their sources and by their destinations
pub record AreBothSides (ends : List EdgeEnds) (both : BothSides) : Type 0 where
  pub out : AreSides Out ends both.out
  pub into : AreSides In ends both.into

-- so of the rows of all edge tables
abbrev pub AreSidesOf : List EdgeShape → Tables → List BothSides → Type 0
AreSidesOf shapes tables sides = AllZip (λ shape both. AreBothSides (ends_held tables shape) both) shapes sides

abbrev pub side : Dir → BothSides → List Vertex
side Out both = both.out
side In both = both.into

abbrev pub side_of_table : Dir → Option BothSides → List Vertex
side_of_table dir None = []
side_of_table dir (Some both) = side dir both

none_some : (v x : Vertex) → None ≡ Some x → vertex_key x ≡ vertex_key v
none_some v x h = cc

pub with_edges_fits : (v x : Vertex) → with_edges v ≡ Some x → vertex_key x ≡ vertex_key v
with_edges_fits v x h = go v.sides h
  where
    go : (sides : List Side) → if_any sides v ≡ Some x → vertex_key x ≡ vertex_key v
    go [] e = none_some v x e
    go (s ∷ sides) e = cc
