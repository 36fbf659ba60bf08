-- What a step of a search does to what it keeps.
use Rattle.std.specs.Prelude.{◌≡◌, ◌≤◌, ◌<◌, ℕ, List, [], ◌∷◌, ◌++◌, map, length, slice_get, Some, Contains}
use Rattle.pg_value.specs.declared.shape.Shapes.{Shapes}
use Rattle.pg_value.specs.declared.shape.GraphShape.{GraphShape}
use Rattle.pg_value.specs.Tables.{Tables}
use Rattle.pg_value.specs.declared.shape.ElemId.{ElemId}
use Rattle.pg_ast.specs.declared.pattern.Mode.TheVariants.{Walk}
use Rattle.pg_auto.specs.Stages.{Stage, Pattern}
use Rattle.pg_auto.specs.States.{Task}
use Rattle.pg_short.specs.Spots.{spot_of}
use Rattle.pg_short.specs.Steps.{Step, step_view, spot_view, next_steps}
use Rattle.pg_short.specs.Searches.{IsMore, IsOut, IsSearch, visited, first_step}
use Rattle.pg_short.specs.declared.search.Search.{Search}

-- the step of a number is visited, and the steps from it wait
pub record IsVisit (shapes : Shapes) (tables : Tables) (graph : GraphShape) (stages : List Stage) (number : ℕ) (s u : Search) : Type 0 where
  pub step : Step
  pub here : slice_get (map step_view s.found.items) number ≡ Some step
  pub found : map step_view u.found.items ≡ map step_view s.found.items ++ next_steps shapes tables graph stages number step
  pub order : u.order.items ≡ s.order.items ++ number ∷ []
  pub waiting : IsMore (length s.found.items) (next_steps shapes tables graph stages number step) s.waiting u.waiting
  pub spots : u.spots.keys ≡ s.spots.keys

-- the stages of a pattern over a snapshot, from a start, every walk allowed
abbrev pub task_over : Shapes → Tables → Pattern → ElemId → Task
task_over shapes tables p start = record { shapes = shapes; graph = p.graph; tables = tables; stages = p.stages; mode = Walk; start = start }

abbrev pub steps_in : Search → List Step
steps_in s = map step_view s.found.items

-- the spots are those that are visited
abbrev pub AreVisited : Task → Search → Type 0
AreVisited t s = map spot_view s.spots.keys ≡ map (spot_of t.stages) (visited t (steps_in s) s.order.items)

-- the steps from each that is visited are found behind it, and of those that go on from another no others are found
pub record AreMade (t : Task) (found : List Step) (order : List ℕ) : Type 0 where
  pub first : slice_get found 0 ≡ Some (first_step t.start)
  pub all : (n : ℕ) (step next : Step) → Contains order n → slice_get found n ≡ Some step → Contains (next_steps t.shapes t.tables t.graph t.stages n step) next
      → (k : ℕ) × (n < k) × (slice_get found k ≡ Some next)
  pub only : (k : ℕ) (next : Step) → slice_get found k ≡ Some next → next.before < k
      → Contains order next.before × ((step : Step) × (slice_get found next.before ≡ Some step) × Contains (next_steps t.shapes t.tables t.graph t.stages next.before step) next)

pub record IsSearching (t : Task) (s : Search) : Type 0 where
  pub search : IsSearch t (steps_in s) s.order.items s.waiting
  pub spots : AreVisited t s
  pub made : AreMade t (steps_in s) s.order.items

-- a least count and its number are taken from what waits
pub record IsPopped (t : Task) (e : ℕ × ℕ) (s : Search) : Type 0 where
  pub waited : List (ℕ × ℕ)
  pub search : IsSearch t (steps_in s) s.order.items waited
  pub out : IsOut e waited s.waiting
  pub low : (x : ℕ × ℕ) → Contains waited x → e.0 ≤ x.0
  pub spots : AreVisited t s
  pub made : AreMade t (steps_in s) s.order.items

-- the start alone is found, and waits
pub record IsBegun (start : ElemId) (s : Search) : Type 0 where
  pub found : steps_in s ≡ first_step start ∷ []
  pub order : s.order.items ≡ []
  pub spots : s.spots.keys ≡ []
  pub waiting : IsOut (0, 0) s.waiting []

-- no step waits any more
pub record IsSearched (t : Task) (s : Search) : Type 0 where
  pub search : IsSearch t (steps_in s) s.order.items []
  pub spots : AreVisited t s
  pub made : AreMade t (steps_in s) s.order.items
