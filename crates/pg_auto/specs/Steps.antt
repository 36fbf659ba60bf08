-- A search goes from state to state: a walk completes a state exactly where it completes one of those that follow it, and at the end of
-- the pattern exactly where it is the state's own.
use Rattle.std.specs.Prelude.{◌≡◌, ◌↔◌, Contains, slice_get, Some, None}
use Rattle.pg_value.specs.Tables.{IsInOrder}
use Rattle.pg_meaning.specs.Fits.{Agree}
use Rattle.pg_meaning.specs.Bindings.{Permits}
use Rattle.pg_meaning.specs.Sound.Graphs.{IsSoundGraph}
use Rattle.pg_auto.specs.Stages.{Stage}
use Rattle.pg_auto.specs.States.{Task, State, Walked, Completes, walked}
use Rattle.pg_auto.specs.Successors.{successors}

-- a sound graph over tables in order
pub record IsSoundTask (t : Task) : Type 0 where
  pub graph : IsSoundGraph t.shapes t.graph
  pub tables : IsInOrder t.tables

-- what a walk has done so far is permitted, and its variables agree
pub record IsPermitted (t : Task) (s : State) : Type 0 where
  pub permitted : Permits t.mode t.start s.hops
  pub agree : Agree s.singles

-- a state that follows is completed
pub record IsStep (t : Task) (s : State) (stage : Stage) (w : Walked) : Type 0 where
  pub next : State
  pub follows : Contains (successors t s stage) next
  pub completes : Completes t next w

-- in a stage
abbrev pub StepsOn : Type 0
StepsOn = (t : Task) → IsSoundTask t → (s : State) (stage : Stage) → slice_get t.stages s.stage ≡ Some stage → (w : Walked)
    → Completes t s w ↔ IsStep t s stage w

-- behind the last stage
abbrev pub StepsEnd : Type 0
StepsEnd = (t : Task) (s : State) → slice_get t.stages s.stage ≡ None → (w : Walked) → Completes t s w ↔ (IsPermitted t s × (w ≡ walked s))
