-- Edges as they are seen from one of their ends.
use Rattle.std.specs.Prelude.{Bool, List, map}
use Rattle.std.specs.List.{filter}
use Rattle.std.specs.Ordering.{is_eq}
use Rattle.pg_value.specs.declared.value.Value.{Value}
use Rattle.pg_value.specs.declared.value.Dir.{Dir}
use Rattle.pg_value.specs.declared.value.Dir.TheVariants.{Out, In}
use Rattle.pg_value.specs.declared.row.Key.{Key}
use Rattle.pg_value.specs.Order.{key_cmp}
use Rattle.pg_adj.specs.declared.ends.EdgeEnds.{EdgeEnds}

-- an edge that has a vertex at one end, and the vertex at its other end
pub record Entry : Type 0 where
  pub vertex : Key
  pub edge : Key
  pub other : Key

-- an edge, seen from its source or from its destination
abbrev pub entry : Dir → EdgeEnds → Entry
entry Out e = record { vertex = e.source; edge = e.edge; other = e.dest }
entry In e = record { vertex = e.dest; edge = e.edge; other = e.source }

abbrev pub is_at : List Value → Entry → Bool
is_at v e = is_eq (key_cmp v e.vertex.values)

-- the edges that have a vertex at that end, in the order in which they stand
abbrev pub entries_at : Dir → List Value → List EdgeEnds → List Entry
entries_at dir v ends = filter (is_at v) (map (entry dir) ends)
