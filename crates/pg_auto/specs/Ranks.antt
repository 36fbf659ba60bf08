-- Why a search ends: where each part is bounded, each state has a rank above those of the states that follow it.
use Rattle.std.specs.Prelude.{◌≡◌, ◌≤◌, ◌<◌, ◌+◌, ◌-◌, ◌*◌, ℕ, zero, suc, false, List, [], ◌∷◌, ◌++◌, map, length, sum_by, Contains, Some, None, IfNone, slice_get}
use Rattle.pg_value.specs.declared.shape.ElemId.{ElemId}
use Rattle.pg_value.specs.declared.shape.Shapes.{Shapes}
use Rattle.pg_ast.specs.declared.pattern.Mode.{Mode}
use Rattle.pg_meaning.specs.declared.checked.CheckedPath.{CheckedPath}
use Rattle.pg_meaning.specs.Walks.{Graph, Hop, last_vertex}
use Rattle.pg_meaning.specs.Outlines.{is_walk, walks_on}
use Rattle.pg_meaning.specs.Sound.Patterns.{IsSoundPath, outlines}
use Rattle.pg_auto.specs.Stages.{Stage, stages_of}
use Rattle.pg_auto.specs.Counts.{cap}
use Rattle.pg_auto.specs.States.{Task, State, graph_in, first_state, stages_from}
use Rattle.pg_auto.specs.Successors.{successors, next_states}
use Rattle.pg_auto.specs.Steps.{IsSoundTask, IsPermitted}

-- WHERE WALKS ARE BOUNDED

-- a stage that may be repeated without end has a leg, and not every walk is permitted
abbrev pub IsBounded : Mode → Stage → Type 0
IsBounded mode stage = IfNone stage.high ((0 < length stage.round.legs) × (is_walk mode ≡ false))

abbrev pub AreBounded : Mode → List Stage → Type 0
AreBounded mode stages = (stage : Stage) → Contains stages stage → IsBounded mode stage

-- so are the stages of a sound path pattern under whose mode no part may be repeated without end
abbrev pub SoundAreBounded : Type 0
SoundAreBounded = (shapes : Shapes) (path : CheckedPath) → IsSoundPath shapes path → walks_on path.mode (outlines path) ≡ false → AreBounded path.mode (stages_of path)

-- RANKS

-- the edges of a graph, and the vertices at their ends
abbrev pub elements_in : Graph → List ElemId
elements_in g = map (λ e. e.elem) g.edges ++ (map (λ e. e.source) g.edges ++ map (λ e. e.dest) g.edges)

-- no walk that repeats no edge, or no vertex but its first, is longer
abbrev pub reach : Task → ℕ
reach t = length (elements_in (graph_in t))

-- the counts that some stages tell apart
abbrev pub span : List Stage → ℕ
span [] = 0
span (stage ∷ stages) = cap stage + 1 + span stages

-- those that are left of them, where some rounds of the first are done
abbrev pub span_left : List Stage → ℕ → ℕ
span_left [] done = 0
span_left (stage ∷ stages) done = cap stage + 1 - done + span stages

abbrev pub rank : Task → State → ℕ
rank t s = span_left (stages_from t s.stage) s.done + (reach t - length s.hops) * (span t.stages + 1)

-- STATES THAT A SEARCH COMES TO

pub record IsValid (t : Task) (s : State) : Type 0 where
  pub within : s.stage ≤ length t.stages
  pub counted : (stage : Stage) → slice_get t.stages s.stage ≡ Some stage → s.done ≤ cap stage
  -- behind the last stage nothing is counted
  pub ended : slice_get t.stages s.stage ≡ None → s.done ≡ 0
  pub at : s.at ≡ last_vertex t.start s.hops
  pub permitted : IsPermitted t s
  -- its hops are of the graph
  pub hops : (hop : Hop) → Contains s.hops hop → Contains (elements_in (graph_in t)) hop.edge × Contains (elements_in (graph_in t)) hop.to

abbrev pub FirstIsValid : Type 0
FirstIsValid = (t : Task) → IsValid t (first_state t.start)

pub record IsLower (t : Task) (s next : State) : Type 0 where
  pub valid : IsValid t next
  pub lower : rank t next < rank t s

abbrev pub RanksFall : Type 0
RanksFall = (t : Task) → IsSoundTask t → AreBounded t.mode t.stages → (s : State) → IsValid t s → (stage : Stage) → slice_get t.stages s.stage ≡ Some stage
    → (next : State) → Contains (successors t s stage) next → IsLower t s next

-- THE MEASURE

-- how many states follow in so many steps, and the state itself
abbrev pub size : Task → ℕ → State → ℕ
size t zero s = 1
size t (suc n) s = 1 + sum_by (size t n) (next_states t s)

-- a list of states that wait is measured by the sum of their weights
abbrev pub weight : Task → State → ℕ
weight t s = size t (rank t s) s

-- a state weighs more than those that follow it together
abbrev pub WeightsFall : Type 0
WeightsFall = (t : Task) → IsSoundTask t → AreBounded t.mode t.stages → (s : State) → IsValid t s → (stage : Stage) → slice_get t.stages s.stage ≡ Some stage
    → sum_by (weight t) (successors t s stage) < weight t s
