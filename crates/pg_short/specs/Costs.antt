-- What a search reads at most, by what the reads of a view cost. A visit to a vertex reads its edges in both directions, and those of the vertices
-- behind them as far as a round goes.
use Rattle.std.specs.Prelude.{◌≡◌, ◌≤◌, ◌+◌, ◌*◌, ℕ, zero, suc, true, false, cond, max, List, [], ◌∷◌, length, map, flat_map, Contains, slice_get, Some, None, sum_by}
use Rattle.std.specs.List.{list_any}
use Rattle.pg_value.specs.declared.value.Dir.{Dir}
use Rattle.pg_value.specs.declared.value.Dir.TheVariants.{Out, In}
use Rattle.pg_value.specs.declared.row.Key.{Key}
use Rattle.pg_value.specs.declared.shape.ElemId.{ElemId}
use Rattle.pg_value.specs.declared.shape.EdgeNo.{EdgeNo}
use Rattle.pg_value.specs.declared.shape.TableNo.{TableNo}
use Rattle.pg_value.specs.declared.shape.Shapes.{Shapes}
use Rattle.pg_value.specs.declared.shape.GraphShape.{GraphShape}
use Rattle.pg_value.specs.Tables.{Tables}
use Rattle.pg_value.specs.Graph.{vertices}
use Rattle.pg_ast.specs.declared.pattern.Arrow.TheVariants.{Either}
use Rattle.pg_meaning.specs.declared.checked.CheckedPath.{CheckedPath}
use Rattle.pg_meaning.specs.Walks.{Hop, last_vertex}
use Rattle.pg_meaning.specs.Rounds.{Leg}
use Rattle.pg_meaning.specs.Outlines.{length_number}
use Rattle.pg_meaning.specs.Bindings.{Distinct}
use Rattle.pg_meaning.specs.Sound.Patterns.{outlines}
use Rattle.pg_view.specs.declared.view.Neighbour.{Neighbour}
use Rattle.pg_auto.specs.Stages.{Stage, is_of_leg}
use Rattle.pg_auto.specs.Counts.{may_enter}
use Rattle.pg_auto.specs.States.{Task, State}
use Rattle.pg_auto.specs.Successors.{led_to}
use Rattle.pg_search.specs.Hops.{read_cost, hops_of}
use Rattle.pg_short.specs.Rounds.{hops_in}
use Rattle.pg_short.specs.Spots.{Spot, names, is_needed, spot_of}
use Rattle.pg_short.specs.Searches.{IsReached}

-- THE BOUND

-- a view, with the cost of a row of a table, and of the edges of an edge table that have the vertex of a key at an end
pub record Costs : Type 0 where
  pub shapes : Shapes
  pub tables : Tables
  pub row : TableNo → ℕ
  pub hop : EdgeNo → Dir → Key → ℕ

abbrev pub costs_of : Shapes → Tables → (TableNo → ℕ) → (EdgeNo → Dir → Key → ℕ) → Costs
costs_of shapes tables row hop = record { shapes = shapes; tables = tables; row = row; hop = hop }

-- the edges of an edge table at a vertex, in both directions
abbrev pub edge_cost : Costs → Key → EdgeNo → ℕ
edge_cost costs key e = costs.hop e Out key + costs.hop e In key

-- a vertex and its edges
abbrev pub vertex_cost : Costs → GraphShape → ElemId → ℕ
vertex_cost costs graph v = costs.row v.table + sum_by (edge_cost costs v.key) graph.edges

-- the vertices at the other ends of the edges of a vertex, each as often as an edge reaches it
abbrev pub neighbours : Costs → GraphShape → ElemId → List ElemId
neighbours costs graph v = map (λ hop. hop.to) (flat_map (led_to costs.shapes costs.tables Either v) graph.edges)

-- a visit to a vertex, from which so many edges are followed one behind the other
abbrev pub visit_cost : Costs → GraphShape → ℕ → ElemId → ℕ
visit_cost costs graph zero v = 0
visit_cost costs graph (suc g) v = vertex_cost costs graph v + sum_by (visit_cost costs graph g) (neighbours costs graph v)

abbrev pub greatest : List ℕ → ℕ
greatest [] = 0
greatest (n ∷ ns) = max n (greatest ns)

-- the greatest number of edges in a part, at least one
abbrev pub most_edges : CheckedPath → ℕ
most_edges path = max 1 (greatest (map (λ o. length o.edges) (outlines path)))

-- a visit to each vertex from each place of the pattern, of which there are no more than the square of its length number and one
abbrev pub visits_cost : Costs → CheckedPath → ℕ
visits_cost costs path = (length_number (outlines path) + 1) * (length_number (outlines path) + 1) * sum_by (visit_cost costs path.graph (most_edges path)) (vertices path.graph costs.tables)

-- and before that the row of the start
abbrev pub short_cost : Costs → CheckedPath → ℕ
short_cost costs path = visits_cost costs path + greatest (map costs.row path.graph.vertices)

-- Where a part that stands once names a variable that a later one names too, it is the first part of the pattern, and names the variable by its
-- first node alone. So no variable stands in two parts other than as the first node of the pattern and further on.
abbrev pub NamesOnce : List Stage → Type 0
NamesOnce stages = (k x : ℕ) (stage : Stage) → slice_get stages k ≡ Some stage → names x stage ≡ true → is_needed stages (k + 1) x ≡ true → (k ≡ 0) × (list_any (is_of_leg x) stage.round.legs ≡ false)

-- WHAT THE FUNCTIONS READ

-- the hops over a leg from a vertex
abbrev pub leg_cost : (EdgeNo → Dir → Key → ℕ) → Shapes → GraphShape → Leg → ElemId → ℕ
leg_cost cost shapes graph leg v = read_cost cost shapes leg.arrow leg.edge.tables v.key graph.edges

-- the rounds over legs from a vertex
abbrev pub legs_cost : (EdgeNo → Dir → Key → ℕ) → Shapes → Tables → GraphShape → List Leg → ElemId → ℕ
legs_cost cost shapes tables graph [] v = 0
legs_cost cost shapes tables graph (leg ∷ legs) v = leg_cost cost shapes graph leg v + sum_by (λ hop. legs_cost cost shapes tables graph legs hop.to) (hops_of shapes graph tables leg v)

-- the hops over a leg from where hops that have come so far end
abbrev pub front_cost : (EdgeNo → Dir → Key → ℕ) → Shapes → GraphShape → Leg → ElemId → List Neighbour → ℕ
front_cost cost shapes graph leg v front = leg_cost cost shapes graph leg (last_vertex v (hops_in front))

-- the rounds over legs from there
abbrev pub fronts_cost : (EdgeNo → Dir → Key → ℕ) → Shapes → Tables → GraphShape → List Leg → ElemId → List (List Hop) → ℕ
fronts_cost cost shapes tables graph legs v fronts = sum_by (λ front. legs_cost cost shapes tables graph legs (last_vertex v front)) fronts

-- the rounds of a stage, where another may begin
abbrev pub stage_cost : (EdgeNo → Dir → Key → ℕ) → Shapes → Tables → GraphShape → Stage → ℕ → ElemId → ℕ
stage_cost cost shapes tables graph stage done v = cond (may_enter stage done) (legs_cost cost shapes tables graph stage.round.legs v) 0

-- the steps from a spot
abbrev pub spot_cost : (EdgeNo → Dir → Key → ℕ) → Shapes → Tables → GraphShape → List Stage → Spot → ℕ
spot_cost cost shapes tables graph stages s = elim (slice_get stages s.stage) [ None ↦ 0 | Some stage ↦ stage_cost cost shapes tables graph stage s.done s.at ]

abbrev pub spots_cost : (EdgeNo → Dir → Key → ℕ) → Task → List Spot → ℕ
spots_cost cost t spots = sum_by (spot_cost cost t.shapes t.tables t.graph t.stages) spots

-- a walk from the start comes to the spot
pub record IsReachedSpot (t : Task) (s : Spot) : Type 0 where
  pub state : State
  pub reached : IsReached t state
  pub spot : spot_of t.stages state ≡ s

-- the steps from spots, none of them twice, cost what has been read and what those of other spots cost
pub record IsRead (cost : EdgeNo → Dir → Key → ℕ) (t : Task) (others : List Spot) (before now : ℕ) : Type 0 where
  pub spots : List Spot
  pub apart : Distinct spots
  pub reached : (s : Spot) → Contains spots s → IsReachedSpot t s
  pub within : now + spots_cost cost t others ≤ before + spots_cost cost t spots
