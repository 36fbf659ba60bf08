-- The edges of one edge table in groups, by the vertex at one of their ends.
use Rattle.std.specs.Prelude.{◌≡◌, ◌<◌, ◌≤◌, List, [], length, map}
use Rattle.std.specs.declared.option.Option.{Option}
use Rattle.std.specs.declared.option.Option.TheVariants.{Some, None}
use Rattle.pg_keyed.specs.Keyed.{Each, Ascends, get}
use Rattle.pg_value.specs.declared.value.Value.{Value}
use Rattle.pg_value.specs.declared.value.Dir.{Dir}
use Rattle.pg_value.specs.declared.row.Key.{Key}
use Rattle.pg_value.specs.Order.{key_cmp}
use Rattle.pg_adj.specs.declared.ends.EdgeEnds.{EdgeEnds}
use Rattle.pg_adj.specs.declared.group.Group.{Group}
use Rattle.pg_adj.specs.Entries.{entries_at}

abbrev pub vertex_of : Group → List Value
vertex_of g = g.vertex.values

-- the group of a vertex
abbrev pub group_at : List Value → List Group → Option Group
group_at v groups = get vertex_of key_cmp v groups

abbrev pub edges_of : Option Group → List Key
edges_of None = []
edges_of (Some g) = g.edges

abbrev pub others_of : Option Group → List Key
others_of None = []
others_of (Some g) = g.others

-- Groups in order of their vertices, none of them empty: at each vertex the edges that have it at that end, in the order in which they
-- stand, and beside each the vertex at its other end.
pub record AreGroups (dir : Dir) (ends : List EdgeEnds) (groups : List Group) : Type 0 where
  pub in_order : Ascends vertex_of key_cmp groups
  pub full : Each (λ g. 0 < length g.edges) groups
  pub few : length groups ≤ length ends
  pub edges : (v : List Value) → edges_of (group_at v groups) ≡ map (λ e. e.edge) (entries_at dir v ends)
  pub others : (v : List Value) → others_of (group_at v groups) ≡ map (λ e. e.other) (entries_at dir v ends)
