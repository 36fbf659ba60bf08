-- Runs that follow one another, as one.
use Rattle.std.specs.Prelude.{ℕ, ◌≡◌, List, [], ◌∷◌}
use Rattle.pg_value.specs.Tables.{Tables, IsInOrder}
use Rattle.pg_value.specs.Log.{put}
use Rattle.pg_run.specs.Runs.{RunOf}
use Rattle.pg_snap.specs.Snapshots.{laid}

-- each run begins where the one before it ends
abbrev pub Follow : RunOf → List RunOf → Type 0
Follow run [] = Unit {0}
Follow run (next ∷ more) = (run.last ≡ next.after) × Follow next more

-- the last version of all
abbrev pub last_of : RunOf → List RunOf → ℕ
last_of run [] = run.last
last_of run (next ∷ more) = last_of next more

-- a run of the versions of several, and what they wrote
pub record IsOne (oldest : RunOf) (more : List RunOf) (run : RunOf) : Type 0 where
  pub shapes : run.shapes ≡ oldest.shapes
  pub after : run.after ≡ oldest.after
  pub last : run.last ≡ last_of oldest more
  pub same : (tables : Tables) → IsInOrder tables → put tables run.writes ≡ laid tables (oldest ∷ more)
