-- What a statement sees: a version of the log under its transaction's own writes.
use Rattle.std.specs.Prelude.{ℕ, ◌≡◌, List, map}
use Rattle.pg_value.specs.declared.shape.Shapes.{Shapes}
use Rattle.pg_value.specs.declared.write.Write.{Write}
use Rattle.pg_value.specs.declared.write.Commit.{Commit}
use Rattle.pg_value.specs.Log.{put, view}
use Rattle.pg_core.specs.declared.parts.Parts.{Parts}
use Rattle.pg_core.specs.Versions.{StandsFor, put_runs}
use Rattle.pg_run.specs.Runs.{RunOf}
use Rattle.pg_run.specs.Kept.{kept_run}
use Rattle.pg_snap.specs.Bases.{BaseOf}
use Rattle.pg_snap.specs.Kept.{kept_base}
use Rattle.pg_snap.specs.Snapshots.{SnapOf, tables_of}

-- a snapshot under these writes, beside the one without them
pub record IsUnder (bare : SnapOf) (ws : List Write) (s : SnapOf) : Type 0 where
  pub base : s.base ≡ bare.base
  pub version : s.at ≡ bare.at
  pub tables : tables_of s ≡ put (tables_of bare) ws

-- what a pin or a build hands out, under these writes
pub record IsSeen (p : Parts BaseOf RunOf) (ws : List Write) (s : SnapOf) : Type 0 where
  pub base : s.base ≡ p.base
  pub version : s.at ≡ p.at
  pub tables : tables_of s ≡ put (put_runs p.base.tables (map kept_run p.runs)) ws

-- version `at` of a log under these writes
pub record IsViewAt (shapes : Shapes) (log : List Commit) (at : ℕ) (ws : List Write) (s : SnapOf) : Type 0 where
  pub made : s.base.shapes ≡ shapes
  pub version : s.at ≡ at
  pub tables : tables_of s ≡ view log at ws

-- the version of the log for which the parts stand, under these writes
abbrev pub IsViewOf : Parts BaseOf RunOf → List Write → SnapOf → Type 0
IsViewOf p ws s = (shapes : Shapes) (log : List Commit) (at : ℕ) → StandsFor kept_base kept_run shapes log at p → IsViewAt shapes log at ws s
