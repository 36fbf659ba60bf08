-- A snapshot: a base under runs, and under a transaction's own writes.
use Rattle.std.specs.Prelude.{ℕ, ◌≡◌, ◌≤◌, ◌+◌, List, [], ◌∷◌, ◌++◌}
use Rattle.std.specs.declared.option.Option.{Option}
use Rattle.std.specs.declared.option.Option.TheVariants.{Some, None}
use Rattle.std.specs.List.{cons_option}
use Rattle.pg_keyed.specs.Lists.{Each}
use Rattle.pg_value.specs.declared.value.Value.{Value}
use Rattle.pg_value.specs.declared.row.Row.{Row}
use Rattle.pg_value.specs.declared.shape.TableNo.{TableNo}
use Rattle.pg_value.specs.declared.shape.Shapes.{Shapes}
use Rattle.pg_value.specs.Tables.{Tables, FitTables, FitWrites}
use Rattle.pg_meaning.specs.Sound.Graphs.{AreSoundShapes}
use Rattle.pg_value.specs.Writes.{IsInOrder}
use Rattle.pg_value.specs.Log.{put}
use Rattle.pg_run.specs.Runs.{RunOf, said_at}
use Rattle.pg_snap.specs.Bases.{BaseOf}

-- version `at`: a base, the runs of the versions behind it, the oldest first, and the own writes of a transaction, if there are any
pub record SnapOf : Type 0 where
  pub base : BaseOf
  pub runs : List RunOf
  pub own : Option RunOf
  pub at : ℕ

-- the runs, the own writes behind all others
abbrev pub parts : SnapOf → List RunOf
parts s = s.runs ++ cons_option s.own []

-- the writes of runs put on tables, one run after another
abbrev pub laid : Tables → List RunOf → Tables
laid tables [] = tables
laid tables (run ∷ runs) = laid (put tables run.writes) runs

abbrev pub tables_of : SnapOf → Tables
tables_of s = laid s.base.tables (parts s)

-- the runs follow one another, from version `from` to version `to`
abbrev pub Cover : ℕ → List RunOf → ℕ → Type 0
Cover from [] to = from ≡ to
Cover from (run ∷ runs) to = (run.after ≡ from) × Cover run.last runs to

-- a run that was made for these shapes
pub record IsFor (shapes : Shapes) (run : RunOf) : Type 0 where
  pub made : run.shapes ≡ shapes
  pub in_order : IsInOrder run.writes
  pub fit : FitWrites shapes run.writes

abbrev pub AreFor : Shapes → List RunOf → Type 0
AreFor shapes runs = Each (IsFor shapes) runs

-- what the newest of runs that names a row says of it
abbrev pub later : Option (Option Row) → Option (Option Row) → Option (Option Row)
later (Some r) older = Some r
later None older = older

abbrev pub said_in : TableNo → List Value → List RunOf → Option (Option Row)
said_in t k [] = None
said_in t k (run ∷ runs) = later (said_in t k runs) (said_at t k run)

-- what is so said, or what stood there
abbrev pub or_stood : Option (Option Row) → Option Row → Option Row
or_stood (Some r) old = r
or_stood None old = old

-- runs whose writes are in order and fit their shapes
abbrev pub AreMade : List RunOf → Type 0
AreMade runs = Each (λ run. IsInOrder run.writes × FitWrites run.shapes run.writes) runs

-- a base that is well made, and parts that were made for its shapes, of which the runs cover the versions behind it
pub record IsSnapshot (s : SnapOf) : Type 0 where
  pub sound : AreSoundShapes s.base.shapes
  pub fit : FitTables s.base.shapes s.base.tables
  pub parts : AreFor s.base.shapes (parts s)
  pub cover : Cover s.base.no s.runs s.at

-- a search that finds something has taken a step
abbrev pub Counts : Option (Option Row) → ℕ → ℕ → Type 0
Counts None before after = before ≤ after
Counts (Some r) before after = before + 1 ≤ after
