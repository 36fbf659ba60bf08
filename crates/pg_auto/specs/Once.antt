-- A walk through a sound path pattern is known by its binding, and so is the state at which it ends. So a search that keeps each state once
-- finds each binding once.
use Rattle.std.specs.Prelude.{◌≡◌, None, slice_get}
use Rattle.pg_value.specs.declared.shape.ElemId.{ElemId}
use Rattle.pg_value.specs.declared.shape.Shapes.{Shapes}
use Rattle.pg_value.specs.Tables.{Tables}
use Rattle.pg_meaning.specs.declared.checked.CheckedPath.{CheckedPath}
use Rattle.pg_meaning.specs.Sound.Patterns.{IsSoundPath}
use Rattle.pg_auto.specs.States.{Task, State, Walked, Completes, first_state, walked, binding_of}
use Rattle.pg_auto.specs.Allowed.{task_of}
use Rattle.pg_auto.specs.Ranks.{IsValid}

abbrev pub WalksByBindings : Type 0
WalksByBindings = (shapes : Shapes) (tables : Tables) (path : CheckedPath) (start : ElemId) → IsSoundPath shapes path → (w u : Walked)
    → Completes (task_of shapes tables path start) (first_state start) w → Completes (task_of shapes tables path start) (first_state start) u
    → binding_of start path.vars w ≡ binding_of start path.vars u → w ≡ u

-- a state that a search comes to behind the last stage
pub record IsEnd (t : Task) (s : State) : Type 0 where
  pub valid : IsValid t s
  pub is_end : slice_get t.stages s.stage ≡ None
  pub completes : Completes t (first_state t.start) (walked s)

abbrev pub EndsByBindings : Type 0
EndsByBindings = (shapes : Shapes) (tables : Tables) (path : CheckedPath) (start : ElemId) → IsSoundPath shapes path → (s r : State)
    → IsEnd (task_of shapes tables path start) s → IsEnd (task_of shapes tables path start) r
    → binding_of start path.vars (walked s) ≡ binding_of start path.vars (walked r) → s ≡ r
