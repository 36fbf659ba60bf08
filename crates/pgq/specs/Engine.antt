-- What runs a script's statements holds between two of them, and what one statement does to it.
use Rattle.std.specs.Prelude.{ℕ, ◌≡◌, ◌+◌, ◌-◌, ◌==◌, ◌≤◌, ◌<◌, ◌^◌, false, cond, nat_lt, List, [], ◌++◌, length, replicate, get_or, slice_set}
use Rattle.std.specs.declared.option.Option.TheVariants.{None}
use Rattle.pg_value.specs.Tables.{held_in}
use Rattle.pg_value.specs.Log.{after, held}
use Rattle.pg_value.specs.Writes.{Limited}
use Rattle.pg_value.specs.TablesLaws.{FitLog}
use Rattle.pg_meaning.specs.Sound.Graphs.{AreSoundShapes}
use Rattle.pg_ast.specs.declared.define.Define.{Define}
use Rattle.pg_rules.specs.Catalog.{Defined}
use Rattle.pg_rules.specs.Changes.{Change}
use Rattle.pg_rules.specs.Catalog.LookUps.{nothing}
use Rattle.pg_rules.specs.Catalog.Shapes.{shapes}
use Rattle.pg_script.specs.declared.script.Item.{Item}
use Rattle.pg_script.specs.declared.script.Script.{Script}
use Rattle.pg_script.specs.declared.outcome.Outcome.{Outcome}
use Rattle.pg_script.specs.Judged.{Judged, Session, Reading}
use Rattle.pgq.specs.declared.engine.Engine.{Engine}
use Rattle.pg_core.specs.Core.{Core, most_over_base}
use Rattle.pg_session.specs.Stepped.{now, events_of, marking, AfterItem}
use Rattle.pg_ast.specs.declared.pattern.Query.{Query}
use Rattle.pg_language.specs.Language.{language, reads, most_transaction_writes}

-- how many writes the log may hold
abbrev pub most_log_writes : ℕ
most_log_writes = 4194304

-- Between two statements: the lists are the tables after the whole log, the shapes are the catalog's and sound, each commit fits them, the log is within its limit, at
-- most 256 versions stand over the base, and the peak has counted the base.
pub record IsReady (e : Engine) : Type 0 where
  pub each : (t : ℕ) → held_in (record { 0 = t }) (after e.log (length e.log)) ≡ get_or e.tables.items t []
  pub as_many : length e.tables.items ≡ length e.catalog.0
  pub shapes_are : e.shapes ≡ shapes e.catalog
  pub sound_shapes : AreSoundShapes e.shapes
  pub fit : FitLog e.shapes e.log
  pub held_all : e.held ≡ held e.log
  pub room : held e.log ≤ most_log_writes
  pub low : e.base ≤ length e.log
  pub high : length e.log ≤ e.base + most_over_base
  pub peak : 1 ≤ e.peak.0

-- before the first statement
pub record IsFirst (e : Engine) : Type 0 where
  pub catalog : e.catalog ≡ nothing
  pub log : e.log ≡ []
  pub base : e.base ≡ 0
  pub peak : e.peak ≡ (1, 0)

-- THE CORE OF A RUN OUTSIDE TRANSACTIONS

-- between two statements of a script of so many sections no seat holds a pin and no build is open
abbrev pub core_of : ℕ → List ℕ → Engine → Core
core_of sections counts e = record {
  log = e.log;
  base = e.base;
  pins = replicate (sections + 1) None;
  build = None;
  counts = counts;
  ended = replicate sections false;
  stopped = false;
  peak = e.peak;
}

-- how many items each session has finished, when section n has finished k more; the setup's are not counted
abbrev pub counts_then : ℕ → ℕ → List ℕ → List ℕ
counts_then n k counts = cond (n == 0) counts (slice_set counts n (get_or counts n 0 + k))

-- of section n so many items more may be finished
pub record CanCount (sections : ℕ) (counts : List ℕ) (n more : ℕ) : Type 0 where
  pub stands : n < sections
  pub as_many : length counts ≡ sections
  pub few : get_or counts n 0 + more < 2 ^ 32

abbrev pub resting : Defined → Session Defined
resting d = record { open_ = None; catalog = d }

-- The peak after a commit that found this base and a log of this length. One that folds does so while its own statement has the older base
-- pinned: both are kept.
abbrev pub peak_after : ℕ → ℕ → ℕ × ℕ → ℕ × ℕ
peak_after base found peak = cond (found - base == most_over_base) (cond (nat_lt peak.0 2) (2, 1) peak) peak

-- A statement of section n, by the table of outcomes for the log so far: what it answered, and what it left. The core that it leaves is the one that
-- its events lead to.
pub record Answers (script : Script) (n : ℕ) (e : Engine) (item : Item) (o : Outcome) (e' : Engine) : Type 0 where
  -- what it committed, or would have
  pub writes : Limited
  pub limited : writes.limit ≡ most_transaction_writes
  pub judged : (sections : ℕ) (counts : List ℕ) (outs : ℕ → List Outcome) (seen : ℕ)
      → Judged (language script) (now most_log_writes (core_of sections counts e) outs writes n) n seen (resting e.catalog) item o (resting e'.catalog)
  pub core : (sections : ℕ) (counts : List ℕ) → 1 ≤ e.peak.0 → CanCount sections counts n 1
      → AfterItem (shapes e'.catalog) most_log_writes (core_of sections counts e) (events_of n None writes o ++ marking n) o (core_of sections (counts_then n 1 counts) e')

-- the same of whatever item says this, in any script
abbrev pub AnswersTo : Reading Define Change Query → ℕ → Engine → Outcome → Engine → Type 0
AnswersTo r n e o e' = (script : Script) (item : Item) → reads script item r → Answers script n e item o e'
