-- A snapshot is the tables after so many commits of a log, under a transaction's own writes.
use Rattle.std.specs.Prelude.{ℕ, ◌≡◌, ◌≤◌, ◌-◌, ◌+◌, List, length, take, drop, slice_get}
use Rattle.std.specs.declared.option.Option.TheVariants.{Some, None}
use Rattle.pg_keyed.specs.Lists.{Each}
use Rattle.pg_value.specs.declared.write.Commit.{Commit}
use Rattle.pg_value.specs.Tables.{Tables, IsInOrder}
use Rattle.pg_value.specs.Writes as writes
use Rattle.pg_value.specs.Log.{put, puts, after, view}
use Rattle.pg_run.specs.Runs.{RunOf}
use Rattle.pg_snap.specs.Snapshots.{SnapOf, Cover, tables_of}

-- a run has what the commits of its versions wrote
pub record IsOfLog (log : List Commit) (run : RunOf) : Type 0 where
  pub forward : run.after ≤ run.last
  pub within : run.last ≤ length log
  pub same : (tables : Tables) → IsInOrder tables → put tables run.writes ≡ puts tables (take (run.last - run.after) (drop run.after log))

-- a base is a version of the log, and the runs are those of the versions behind it up to the snapshot's
pub record IsVersion (log : List Commit) (s : SnapOf) : Type 0 where
  pub base : s.base.tables ≡ after log s.base.no
  pub within : s.base.no ≤ length log
  pub runs : Each (IsOfLog log) s.runs
  pub cover : Cover s.base.no s.runs s.at

pub record SnapshotsAreVersions : Type 0 where
  -- a run of one commit, and one merged of two that follow one another
  pub one : (log : List Commit) (n : ℕ) (c : Commit) (run : RunOf) → slice_get log n ≡ Some c → run.after ≡ n → run.last ≡ n + 1 → run.writes ≡ c.writes.list → IsOfLog log run
  pub merged : (log : List Commit) (older newer run : RunOf) → IsOfLog log older → IsOfLog log newer → writes.IsInOrder older.writes → writes.IsInOrder newer.writes
      → older.last ≡ newer.after → run.after ≡ older.after → run.last ≡ newer.last → run.writes ≡ writes.merge older.writes newer.writes → IsOfLog log run
  -- without own writes, and under them
  pub version : (log : List Commit) (s : SnapOf) → IsVersion log s → s.own ≡ None → tables_of s ≡ after log s.at
  pub own : (log : List Commit) (s : SnapOf) (run : RunOf) → IsVersion log s → s.own ≡ Some run → tables_of s ≡ view log s.at run.writes
