-- The automaton stands for the pattern: what fits its stages is what fits the pattern's parts, and what completes the first state is
-- what the pattern allows.
use Rattle.std.specs.Prelude.{◌≡◌, ◌↔◌, ℕ, List, Contains}
use Rattle.pg_value.specs.declared.shape.ElemId.{ElemId}
use Rattle.pg_value.specs.declared.shape.Shapes.{Shapes}
use Rattle.pg_value.specs.Graph.{vertices}
use Rattle.pg_value.specs.Tables.{Tables}
use Rattle.pg_meaning.specs.declared.checked.CheckedPath.{CheckedPath}
use Rattle.pg_meaning.specs.Walks.{Graph, Hop}
use Rattle.pg_meaning.specs.Fits.{Fits}
use Rattle.pg_meaning.specs.Bindings.{Binding, IsAllowed}
use Rattle.pg_auto.specs.Stages.{stages_of}
use Rattle.pg_auto.specs.Counts.{Rest}
use Rattle.pg_auto.specs.States.{Task, Walked, Completes, first_state, graph_in, binding_of}

-- a walk with cuts goes through the stages, from the first on, exactly where it fits the parts
abbrev pub StagesFit : Type 0
StagesFit = (g : Graph) (path : CheckedPath) (v : ElemId) (cuts : List (List (List Hop))) → Rest g (stages_of path) 0 v cuts ↔ Fits g path.parts v cuts

-- a path pattern's stages over a snapshot, from one vertex
abbrev pub task_of : Shapes → Tables → CheckedPath → ElemId → Task
task_of shapes tables path start = record { shapes = shapes; graph = path.graph; tables = tables; stages = stages_of path; mode = path.mode; start = start }

-- the binding of a walk that completes the first state
pub record IsWalked (t : Task) (vars : List ℕ) (b : Binding) : Type 0 where
  pub walk : Walked
  pub completes : Completes t (first_state t.start) walk
  pub binding : b ≡ binding_of t.start vars walk

-- what is allowed from a vertex is what completes the first state
abbrev pub StartStands : Type 0
StartStands = (shapes : Shapes) (tables : Tables) (path : CheckedPath) (start : ElemId) → Contains (vertices path.graph tables) start → (b : Binding)
    → (IsAllowed (graph_in (task_of shapes tables path start)) path b × (b.start ≡ start)) ↔ IsWalked (task_of shapes tables path start) path.vars b
