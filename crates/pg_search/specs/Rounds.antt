-- Walks that go on over the legs of a round.
use Rattle.std.specs.Prelude.{◌≡◌, ◌<◌, ℕ, List, [], ◌∷◌, ◌++◌, map, flat_map, length}
use Rattle.pg_keyed.specs.Lists.{Each}
use Rattle.pg_value.specs.declared.shape.ElemId.{ElemId}
use Rattle.pg_value.specs.declared.shape.GraphShape.{GraphShape}
use Rattle.pg_value.specs.declared.shape.Shapes.{Shapes}
use Rattle.pg_value.specs.Tables.{Tables}
use Rattle.pg_meaning.specs.Walks.{Hop, last_vertex}
use Rattle.pg_meaning.specs.Rounds.{Leg}
use Rattle.pg_view.specs.declared.view.Neighbour.{Neighbour}
use Rattle.pg_search.specs.Hops.{hop_view, hops_of}
use Rattle.pg_search.specs.Numbers.{Numbers, Grow, hops_at}

abbrev pub with_hop : List Hop → Neighbour → List Hop
with_hop hops n = hops ++ hop_view n ∷ []

-- a walk from the start, with each hop over a leg behind it
abbrev pub longer : Shapes → GraphShape → Tables → ElemId → Leg → List Hop → List (List Hop)
longer shapes g tables start leg hops = map (λ hop. hops ++ hop ∷ []) (hops_of shapes g tables leg (last_vertex start hops))

-- walks from the start, each with hops over all of some legs behind it
abbrev pub along : Shapes → GraphShape → Tables → ElemId → List Leg → List (List Hop) → List (List Hop)
along shapes g tables start [] walks = walks
along shapes g tables start (leg ∷ legs) walks = along shapes g tables start legs (flat_map (longer shapes g tables start leg) walks)

-- these are the numbers of the walks
pub record AreAlong (n m : Numbers) (found : List ℕ) (walks : List (List Hop)) : Type 0 where
  pub grow : Grow n m
  pub within : Each (λ k. k < length m.walks) found
  pub stand : map (hops_at m) found ≡ walks
