-- What is kept of the versions of a log: bases, each the tables of one version, and runs, each the writes of versions that follow one another.
use Rattle.std.specs.Prelude.{ℕ, ◌≡◌, ◌+◌, ◌-◌, ◌<◌, ◌≤◌, ◌==◌, List, [], ◌∷◌, ◌++◌, cond, length, map, drop, slice_get}
use Rattle.std.specs.declared.option.Option.{Option}
use Rattle.std.specs.declared.option.Option.TheVariants.{Some, None}
use Rattle.pg_keyed.specs.Lists.{Each}
use Rattle.pg_value.specs.declared.shape.TableShape.{TableShape}
use Rattle.pg_value.specs.declared.shape.EdgeShape.{EdgeShape}
use Rattle.pg_value.specs.declared.shape.Shapes.{Shapes}
use Rattle.pg_value.specs.declared.write.Write.{Write}
use Rattle.pg_value.specs.declared.write.Commit.{Commit}
use Rattle.pg_value.specs.Tables.{Tables, IsInOrder, FitTables}
use Rattle.pg_value.specs.TablesLaws.{FitLog}
use Rattle.pg_value.specs.Writes as writes
use Rattle.pg_value.specs.Log.{put, puts, after, IsLawful}
use Rattle.pg_pins.specs.Held.{Held, pin_of, after_install}
pub use Rattle.pg_core.specs.declared.parts.Parts.{Parts}
use Rattle.pg_core.specs.Powers.{Powers}
use Rattle.pg_core.specs.Core.{Build, most_over_base}

-- a base, which was made for these shapes, stands for the tables of a version
pub record BaseOf : Type 0 where
  pub shapes : Shapes
  pub version : ℕ
  pub tables : Tables

-- a run, which was made for these shapes, of the versions after `after` up to `last`
pub record RunOf : Type 0 where
  pub shapes : Shapes
  pub after : ℕ
  pub last : ℕ
  pub writes : List Write

-- how many versions a run is of
abbrev pub span : RunOf → ℕ
span r = r.last - r.after

-- two runs that follow one another as one
abbrev pub joined : RunOf → RunOf → RunOf
joined older newer = record { shapes = older.shapes; after = older.after; last = newer.last; writes = writes.merge older.writes newer.writes }

-- The runs, newest first, with one run more: it is joined with the newest of them while both are of equally many versions.
abbrev pub carry : RunOf → List RunOf → List RunOf
carry r [] = r ∷ []
carry r (o ∷ os) = cond (span o == span r) (carry (joined o r) os) (r ∷ o ∷ os)

-- runs, newest first, each of which ends where the one before it in the list begins, r before all of them; and all of them were made for the same shapes
abbrev pub Follows : RunOf → List RunOf → Type 0
Follows r [] = Unit {0}
Follows r (o ∷ os) = (o.shapes ≡ r.shapes) × (o.last ≡ r.after) × Follows o os

-- runs for these shapes, newest first, which one after another are of the versions after `from` up to `until`
abbrev pub Chain : Shapes → ℕ → ℕ → List RunOf → Type 0
Chain shapes from until [] = from ≡ until
Chain shapes from until (r ∷ older) = (r.shapes ≡ shapes) × (r.last ≡ until) × Chain shapes from r.after older

-- what runs, newest first, make of tables
abbrev pub put_runs : Tables → List RunOf → Tables
put_runs tables [] = tables
put_runs tables (r ∷ older) = put (put_runs tables older) r.writes

-- WHAT STANDS FOR A LOG

-- A run of these commits, of which the first follows version n: of any tables it makes what the commits' writes make of them, put one after another.
pub record IsRunOf (shapes : Shapes) (n : ℕ) (commits : List Commit) (r : RunOf) : Type 0 where
  pub made : r.shapes ≡ shapes
  pub from : r.after ≡ n
  pub until : r.last ≡ n + length commits
  pub in_order : writes.IsInOrder r.writes
  pub says : (tables : Tables) → IsInOrder tables → put tables r.writes ≡ puts tables commits

-- runs, newest first, which one after another are of all these commits, of which the first follows version n
abbrev pub AreRunsOf : Shapes → ℕ → List Commit → List RunOf → Type 0
AreRunsOf shapes n commits [] = commits ≡ []
AreRunsOf shapes n commits (r ∷ older) = (before : List Commit) × (own : List Commit) × (commits ≡ before ++ own) × IsRunOf shapes (n + length before) own r × AreRunsOf shapes n before older

-- the runs over version n of a log, newest first: one for each of the powers of two whose sum is the number of versions after n, the least one newest
pub record AreRunsOver (shapes : Shapes) (log : List Commit) (n : ℕ) (runs : List RunOf) : Type 0 where
  pub cover : AreRunsOf shapes n (drop n log) runs
  pub powers : Powers 0 (map span runs)

-- a base of a version of the log
abbrev pub IsBaseOf : Shapes → List Commit → ℕ → BaseOf → Type 0
IsBaseOf shapes log n b = (n ≤ length log) × (b ≡ record { shapes = shapes; version = n; tables = after log n })

-- how many runs there are at most over a base
abbrev pub most_runs : ℕ
most_runs = 9

-- A base and runs over it, newest first, may be folded to one base of version `at`: they were made for the same shapes, and the runs are of the versions
-- from the base's to that one.
pub record CanFold (at : ℕ) (b : BaseOf) (runs : List RunOf) : Type 0 where
  pub fit : FitTables b.shapes b.tables
  pub chain : Chain b.shapes b.version at runs
  pub few : length runs ≤ most_runs

-- each table and each edge table of the old shapes is one of the new, by the same number
pub record Extends (old new : Shapes) : Type 0 where
  pub tables : (t : ℕ) (shape : TableShape) → slice_get old.tables t ≡ Some shape → slice_get new.tables t ≡ Some shape
  pub edges : (e : ℕ) (shape : EdgeShape) → slice_get old.edges e ≡ Some shape → slice_get new.edges e ≡ Some shape

-- the parts of a snapshot stand for version `at` of a log
pub record StandsFor {B R : Type 0} (base : B → BaseOf) (run : R → RunOf) (shapes : Shapes) (log : List Commit) (at : ℕ) (p : Parts B R) : Type 0 where
  pub made : p.shapes ≡ shapes
  pub until : p.at ≡ at
  pub same : (base p.base).shapes ≡ shapes
  pub parts : CanFold at (base p.base) (map run p.runs)
  pub tables : put_runs (base p.base).tables (map run p.runs) ≡ after log at

-- THE VERSIONS OF A CORE

-- The shapes of the tables; the log and its limit; the bases with the pins; the runs over the current base, newest first; the open build; and, newest
-- first, the runs over the version that it builds, where they are ready.
pub record Versioned (B R : Type 0) : Type 0 where
  pub shapes : Shapes
  pub log : List Commit
  pub limit : ℕ
  pub held : Held B
  pub runs : List R
  pub building : Option Build
  pub readied : List R

module _ {B R : Type 0} (base : B → BaseOf) (run : R → RunOf) where
  -- An open build has its base pinned, and while that is the current one, the runs over the version that it builds are ready.
  abbrev pub IsBuilding : Versioned B R → Option Build → Type 0
  IsBuilding v None = v.held.build ≡ None
  IsBuilding v (Some b) =
      (v.held.build ≡ Some b.seat)
      × (pin_of v.held b.seat ≡ Some b.base)
      × (b.base < b.at)
      × (b.at ≤ length v.log)
      × (b.base ≡ v.held.current → AreRunsOver v.shapes v.log b.at (map run v.readied))

  pub record IsGood (v : Versioned B R) : Type 0 where
    pub lawful : IsLawful v.limit v.log
    pub in_order : Each (λ c. writes.IsInOrder c.writes.list) v.log
    pub fit : FitLog v.shapes v.log
    pub behind : v.held.current ≤ length v.log
    pub near : length v.log ≤ v.held.current + most_over_base
    pub bases : Each (λ b. IsBaseOf v.shapes v.log b.0 (base b.1)) v.held.bases
    pub runs : AreRunsOver v.shapes v.log v.held.current (map run v.runs)
    pub build : IsBuilding v v.building

  -- What a commit readies before anything changes, r being its run: where as many versions stand over the base as may be, a base at the head, over which
  -- r is the only run; else the runs with r, and those over the version that an open build builds, while its base is the current one.
  abbrev pub IsGrown : Versioned B R → RunOf → Option B → List R → List R → Type 0
  IsGrown v r None runs readied =
      (length v.log < v.held.current + most_over_base)
      × (map run runs ≡ carry r (map run v.runs))
      × ((b : Build) → v.building ≡ Some b → b.base ≡ v.held.current → map run readied ≡ carry r (map run v.readied))
  IsGrown v r (Some b) runs readied =
      (length v.log ≡ v.held.current + most_over_base)
      × IsBaseOf v.shapes v.log (length v.log) (base b)
      × (map run runs ≡ r ∷ [])

-- a new current base of version n, if there is one
abbrev pub held_after : {B : Type 0} → Held B → ℕ → Option B → Held B
held_after h n None = h
held_after h n (Some b) = after_install h n b
