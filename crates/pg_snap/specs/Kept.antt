-- Bases as the core keeps them, and what a snapshot of what it hands out is.
use Rattle.std.specs.Prelude.{ℕ, ◌≡◌, List, [], ◌∷◌, ◌++◌, map}
use Rattle.std.specs.declared.option.Option.TheVariants.{None}
use Rattle.pg_value.specs.declared.shape.Shapes.{Shapes}
use Rattle.pg_value.specs.declared.write.Commit.{Commit}
use Rattle.pg_value.specs.Tables.{Tables, IsInOrder}
use Rattle.pg_value.specs.Log.{put, after}
use Rattle.pg_core.specs.Versions as core
use Rattle.pg_core.specs.declared.parts.Parts.{Parts}
use Rattle.pg_core.specs.Versions.{put_runs, StandsFor}
use Rattle.pg_run.specs.Runs.{RunOf}
use Rattle.pg_run.specs.Kept.{kept_run}
use Rattle.pg_snap.specs.Bases.{BaseOf}
use Rattle.pg_snap.specs.Snapshots.{SnapOf, tables_of}

abbrev pub kept_base : BaseOf → core.BaseOf
kept_base b = record { shapes = b.shapes; version = b.no; tables = b.tables }

-- runs, newest first, in the order in which they came
abbrev pub oldest_first : List RunOf → List RunOf
oldest_first [] = []
oldest_first (run ∷ older) = oldest_first older ++ run ∷ []

-- after which version runs, newest first, begin, r before all of them
abbrev pub begins_after : core.RunOf → List core.RunOf → ℕ
begins_after r [] = r.after
begins_after r (o ∷ os) = begins_after o os

-- one run of all these, newest first, r before all of them: of any tables it makes what they make
pub record IsJoined (r : core.RunOf) (older : List core.RunOf) (run : RunOf) : Type 0 where
  pub made : run.shapes ≡ r.shapes
  pub from : run.after ≡ begins_after r older
  pub until : run.last ≡ r.last
  pub says : (tables : Tables) → IsInOrder tables → put tables run.writes ≡ put_runs tables (r ∷ older)

-- a snapshot of the parts of one, without own writes
pub record IsOfParts (p : Parts BaseOf RunOf) (s : SnapOf) : Type 0 where
  pub base : s.base ≡ p.base
  pub version : s.at ≡ p.at
  pub own : s.own ≡ None
  pub tables : tables_of s ≡ put_runs p.base.tables (map kept_run p.runs)

-- version `at` of a log, without own writes
pub record IsVersionAt (shapes : Shapes) (log : List Commit) (at : ℕ) (s : SnapOf) : Type 0 where
  pub made : s.base.shapes ≡ shapes
  pub version : s.at ≡ at
  pub own : s.own ≡ None
  pub tables : tables_of s ≡ after log at

-- the version of the log for which the parts stand
abbrev pub IsVersionOf : Parts BaseOf RunOf → SnapOf → Type 0
IsVersionOf p s = (shapes : Shapes) (log : List Commit) (at : ℕ) → StandsFor kept_base kept_run shapes log at p → IsVersionAt shapes log at s
