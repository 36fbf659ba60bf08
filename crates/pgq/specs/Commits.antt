-- How the writes of one statement end: there are none, the log has no room for them, or they are its next commit.
use Rattle.std.specs.Prelude.{ℕ, ◌≡◌, ◌⊎◌, ◌+◌, ◌<◌, ◌≤◌, List, [], ◌∷◌, ◌++◌, length}
use Rattle.std.specs.Option.{IsSome, IsNone}
use Rattle.pg_keyed.specs.Keyed.{Each}
use Rattle.pg_value.specs.declared.shape.TableNo.{TableNo}
use Rattle.pg_value.specs.declared.write.Write.{Write}
use Rattle.pg_value.specs.declared.write.Commit.{Commit}
use Rattle.pg_value.specs.Log.{held}
use Rattle.pg_script.specs.declared.outcome.Outcome.{Outcome}
use Rattle.pg_script.specs.declared.outcome.Outcome.TheVariants.{Changed, ChangedAlone, LogFull}
use Rattle.pg_script.specs.Judged.{IsCommit}
use Rattle.pgq.specs.declared.engine.Engine.{Engine}
use Rattle.pg_core.specs.Core.{base_after}
use Rattle.pg_language.specs.Language.{most_transaction_writes}
use Rattle.pgq.specs.Engine.{most_log_writes, peak_after}

-- the write gives a row
abbrev pub HasRow : Write → Type 0
HasRow w = IsSome w.row

-- the write says that its row is gone
abbrev pub IsGone : Write → Type 0
IsGone w = IsNone w.row

-- the write is to this table
abbrev pub IsTo : TableNo → Write → Type 0
IsTo table w = w.table ≡ table

-- each gives a row, or each says that its row is gone
abbrev pub AreAlike : List Write → Type 0
AreAlike ws = Each HasRow ws ⊎ Each IsGone ws

-- the engine with one commit more: what else but the rows of the tables changes by it
pub record IsAppended (commit : Commit) (e e' : Engine) : Type 0 where
  pub catalog : e'.catalog ≡ e.catalog
  pub shapes : e'.shapes ≡ e.shapes
  pub log : e'.log ≡ e.log ++ commit ∷ []
  pub held : e'.held ≡ e.held + length commit.writes.list
  pub base : e'.base ≡ base_after e.base (length e.log)
  pub peak : e'.peak ≡ peak_after e.base (length e.log) e.peak

-- these writes of section n, which had read all commits, are the next one
pub record IsCommitted (n : ℕ) (e : Engine) (ws : List Write) (e' : Engine) : Type 0 where
  pub commit : Commit
  pub is : IsCommit commit n (length e.log) ws
  pub limit : commit.writes.limit ≡ most_transaction_writes
  pub catalog : e'.catalog ≡ e.catalog
  pub log : e'.log ≡ e.log ++ commit ∷ []
  pub base : e'.base ≡ base_after e.base (length e.log)
  pub peak : e'.peak ≡ peak_after e.base (length e.log) e.peak

-- what a statement of section n answers that changes so many rows by these writes, and what it leaves
pub data HasEnded (n : ℕ) (e : Engine) (ws : List Write) (rows : ℕ) (o : Outcome) (e' : Engine) : Type 0 where
  nothing : rows ≡ 0 → o ≡ Changed 0 (length e.log) → e' ≡ e → HasEnded n e ws rows o e'
  full : 0 < rows → most_log_writes < held e.log + length ws → o ≡ LogFull (length e.log) (held e.log) → e' ≡ e → HasEnded n e ws rows o e'
  committed : 0 < rows → held e.log + length ws ≤ most_log_writes → IsCommitted n e ws e'
      → o ≡ ChangedAlone rows (length e.log) (length e.log + 1) → HasEnded n e ws rows o e'
