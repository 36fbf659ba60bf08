-- A small graph on which the definitions are tried: persons 1 to 4, who know each other by the edges 1: 1->2, 2: 2->3,
-- 3: 3->1, 4: 1->2 and 5: 4->4. The sixth row of the edge table names a person who is not there, and is no edge.
use Rattle.std.proofs.Common.{◌≡◌, ℕ, pos, List, [], ◌∷◌, Bool, true, false, ◌&&◌, refl}
use Rattle.std.specs.Prelude.{codes}
use Rattle.std.specs.List.{list_all}
use Rattle.std.specs.Ordering.{is_lt}
use Rattle.std.specs.declared.cmp.Ordering.{Ordering}
use Rattle.std.specs.declared.cmp.Ordering.TheVariants.{Less, Equal, Greater}
use Rattle.pg_keyed.specs.Keyed.{Above}
use Rattle.pg_value.specs.declared.value.Value.TheVariants.{Int, Text}
use Rattle.pg_value.specs.declared.shape.ElemId.{ElemId}
use Rattle.pg_value.specs.declared.shape.TableNo.{TableNo}
use Rattle.pg_value.specs.declared.shape.Shapes.{Shapes}
use Rattle.pg_value.specs.declared.shape.GraphShape.{GraphShape}
use Rattle.pg_value.specs.Order.{Place, place_cmp}
use Rattle.pg_value.specs.Tables.{Stored, Tables, IsInOrder, place_of}
use Rattle.pg_value.specs.Graph.{Edge}
use Rattle.pg_meaning.specs.Walks.{Graph, Hop, graph_of}

abbrev pub person_table : TableNo
person_table = record { 0 = 0 }

abbrev pub knows_table : TableNo
knows_table = record { 0 = 1 }

abbrev pub person : ℕ → ElemId
person i = record { table = person_table; key = record { values = Int (pos i) ∷ [] } }

abbrev pub knows : ℕ → ElemId
knows i = record { table = knows_table; key = record { values = Int (pos i) ∷ [] } }

abbrev pub person_row : ℕ → List ℕ → Stored
person_row i name = record { table = person_table; key = record { values = Int (pos i) ∷ [] }; row = record { values = Int (pos i) ∷ Text name ∷ [] } }

abbrev pub knows_row : ℕ → ℕ → ℕ → ℕ → Stored
knows_row i a b w = record { table = knows_table; key = record { values = Int (pos i) ∷ [] }; row = record { values = Int (pos i) ∷ Int (pos a) ∷ Int (pos b) ∷ Int (pos w) ∷ [] } }

abbrev pub tables : Tables
tables =
    person_row 1 (codes "Ann") ∷ person_row 2 (codes "Bob") ∷ person_row 3 (codes "Cid") ∷ person_row 4 (codes "Dot") ∷
    knows_row 1 1 2 1 ∷ knows_row 2 2 3 2 ∷ knows_row 3 3 1 3 ∷ knows_row 4 1 2 4 ∷ knows_row 5 4 4 5 ∷ knows_row 6 3 9 6 ∷ []

abbrev pub shapes : Shapes
shapes = record {
  tables = [];
  edges = record { table = knows_table; source = person_table; source_columns = 1 ∷ []; dest = person_table; dest_columns = 2 ∷ [] } ∷ [];
}

abbrev pub social : GraphShape
social = record { vertices = person_table ∷ []; edges = record { 0 = 0 } ∷ [] }

abbrev pub edge : ℕ → ℕ → ℕ → Edge
edge i a b = record { elem = knows i; source = person a; dest = person b }

abbrev pub g : Graph
g = record {
  vertices = person 1 ∷ person 2 ∷ person 3 ∷ person 4 ∷ [];
  edges = edge 1 1 2 ∷ edge 2 2 3 ∷ edge 3 3 1 ∷ edge 4 1 2 ∷ edge 5 4 4 ∷ [];
  tables = tables;
}

-- the graph that the tables hold
pub is_graph : graph_of shapes social tables ≡ g
is_graph = refl

abbrev pub hop : ℕ → ℕ → Hop
hop e to = record { edge = knows e; to = person to }

-- the tables are in order, by a test
is_less : (o : Ordering) → is_lt o ≡ true → o ≡ Less
is_less Less h = refl
is_less Equal h = cc
is_less Greater h = cc

both_left : (a b : Bool) → (a && b) ≡ true → a ≡ true
both_left true b h = refl
both_left false b h = h

both_right : (a b : Bool) → (a && b) ≡ true → b ≡ true
both_right true b h = h
both_right false b h = absurd (cc)

abbrev ascend : Tables → Bool
ascend [] = true
ascend (s ∷ ts) = list_all (λ t. is_lt (place_cmp (place_of s) (place_of t))) ts && ascend ts

all_above : (p : Place) (ts : Tables) → list_all (λ t. is_lt (place_cmp p (place_of t))) ts ≡ true → Above place_of place_cmp p ts
all_above p [] h = tt
all_above p (t ∷ ts) h = (is_less _ (both_left _ _ h), all_above p ts (both_right _ _ h))

all_ascend : (ts : Tables) → ascend ts ≡ true → IsInOrder ts
all_ascend [] h = tt
all_ascend (s ∷ ts) h = (all_above (place_of s) ts (both_left _ _ h), all_ascend ts (both_right _ _ h))

pub in_order : IsInOrder tables
in_order = all_ascend tables refl
