-- How edges that stand in order of their vertices are gathered into groups.
use Rattle.std.specs.Prelude.{◌≡◌, ◌≤◌, ℕ, cond, true, false, List, [], ◌∷◌, map, take, drop, length}
use Rattle.std.specs.List.{filter}
use Rattle.std.specs.Ordering.{is_eq, is_lt}
use Rattle.pg_keyed.specs.Keyed.{Each}
use Rattle.pg_value.specs.declared.value.Value.{Value}
use Rattle.pg_value.specs.declared.value.Dir.{Dir}
use Rattle.pg_value.specs.declared.row.Key.{Key}
use Rattle.pg_value.specs.Order.{key_cmp}
use Rattle.pg_adj.specs.declared.ends.EdgeEnds.{EdgeEnds}
use Rattle.pg_adj.specs.declared.seen.Seen.{Seen}
use Rattle.pg_adj.specs.declared.group.Group.{Group}
use Rattle.pg_adj.specs.Entries.{Entry, is_at, entries_at}

abbrev pub plain : Seen → Entry
plain s = record { vertex = s.vertex.now; edge = s.edge.now; other = s.other.now }

abbrev pub plains : List Seen → List Entry
plains seen = map plain seen

-- the first of them has no smaller vertex
abbrev pub StartsFrom : List Value → List Entry → Type 0
StartsFrom v [] = Unit {0}
StartsFrom v (e ∷ es) = is_lt (key_cmp e.vertex.values v) ≡ false

-- no vertex is smaller than the one before it
abbrev pub Rises : List Entry → Type 0
Rises [] = Unit {0}
Rises (e ∷ es) = StartsFrom e.vertex.values es × Rises es

-- the edges of a list, seen from that end, in order of the vertices there; those of one vertex keep their order
pub record AreSeen (dir : Dir) (ends : List EdgeEnds) (seen : List Seen) : Type 0 where
  pub rises : Rises (plains seen)
  pub as_many : length seen ≡ length ends
  pub at : (v : List Value) → filter (is_at v) (plains seen) ≡ entries_at dir v ends

abbrev pub group_of : Key → List Entry → Group
group_of v es = record { vertex = v; edges = map (λ e. e.edge) es; others = map (λ e. e.other) es }

-- an edge in front of the groups of those behind it
abbrev pub join : Entry → List Group → List Group
join e [] = group_of e.vertex (e ∷ []) ∷ []
join e (g ∷ gs) = cond (is_eq (key_cmp e.vertex.values g.vertex.values)) (record { vertex = e.vertex; edges = e.edge ∷ g.edges; others = e.other ∷ g.others } ∷ gs) (group_of e.vertex (e ∷ []) ∷ g ∷ gs)

abbrev pub gather : List Entry → List Group
gather [] = []
gather (e ∷ es) = join e (gather es)

-- the first of them has another vertex
abbrev pub StartsOther : List Value → List Entry → Type 0
StartsOther v [] = Unit {0}
StartsOther v (e ∷ es) = is_at v e ≡ false

-- the first n of them have the vertex, and the one behind them has another
pub record IsRun (v : List Value) (es : List Entry) (n : ℕ) : Type 0 where
  pub within : n ≤ length es
  pub same : Each (λ e. is_at v e ≡ true) (take n es)
  pub ends : StartsOther v (drop n es)
