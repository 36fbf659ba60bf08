-- What a checked change answers over the tables that it sees, which have the writes so far already; and that what it writes fits their shapes.
use Rattle.std.specs.Prelude.{ℕ, ◌≡◌, List, slice_get, Some}
use Rattle.pg_value.specs.declared.shape.Shapes.{Shapes}
use Rattle.pg_value.specs.declared.shape.TableShape.{TableShape}
use Rattle.pg_value.specs.declared.write.Write.{Write}
use Rattle.pg_value.specs.Tables.{Tables, FitTables, FitWrites}
use Rattle.pg_value.specs.Writes.{Limited}
use Rattle.pg_meaning.specs.declared.checked.CheckedChange.{CheckedChange}
use Rattle.pg_meaning.specs.Sound.Graphs.{AreSoundShapes}
use Rattle.pg_meaning.specs.Sound.Changes.{IsSoundChange, table_of}
use Rattle.pg_rules.specs.declared.fault.RowFault.{RowFault}
use Rattle.pg_rules.specs.Changes.ChangeEffect.{context, is_insert, proposed, IsDone, IsFirstFault}
use Rattle.pg_write.specs.declared.fault.EffectFault.{EffectFault}
use Rattle.pg_write.specs.declared.fault.EffectFault.TheVariants as effect
use Rattle.pg_write.specs.JudgedRows.{Judged, Faulty, judged, no_rows}
use Rattle.pg_write.specs.declared.refused.EffectRefused.{EffectRefused}
use Rattle.pg_write.specs.declared.refused.EffectRefused.TheVariants as refused

-- no row has a fault; the writes then, and the number of rows
pub record Does (shapes : Shapes) (tables : Tables) (given : Limited) (change : CheckedChange) (writes : Limited) (rows : ℕ) : Type 0 where
  pub shape : TableShape
  pub shape_at : slice_get shapes.tables (table_of change).0 ≡ Some shape
  pub done : IsDone (context given.limit shape tables given.list) change writes.list rows
  pub limit : writes.limit ≡ given.limit

-- the first faulty row, with its first fault; the writes are handed back as they were given
pub record IsFaulty (shapes : Shapes) (tables : Tables) (given : Limited) (change : CheckedChange) (row : ℕ) (fault : RowFault) (back : Limited) : Type 0 where
  pub shape : TableShape
  pub shape_at : slice_get shapes.tables (table_of change).0 ≡ Some shape
  pub first : IsFirstFault (context given.limit shape tables given.list) change row fault
  pub same : back ≡ given

-- want of memory says nothing
abbrev pub Refuses : Shapes → Tables → Limited → CheckedChange → EffectRefused → Type 0
Refuses shapes tables given change refused.Memory = Unit {0}
Refuses shapes tables given change (refused.Row row fault back) = IsFaulty shapes tables given change row fault back

-- what judging the rows of a change one after another gives
pub record IsJudged (limit : ℕ) (shapes : Shapes) (tables : Tables) (given : List Write) (change : CheckedChange) (j : Judged) : Type 0 where
  pub shape : TableShape
  pub shape_at : slice_get shapes.tables (table_of change).0 ≡ Some shape
  pub judged_is : judged (context limit shape tables given) (is_insert change) no_rows (proposed shape tables change) ≡ j

-- a faulty row, or want of memory, which says nothing
abbrev pub IsJudgedFaulty : ℕ → Shapes → Tables → List Write → CheckedChange → EffectFault → Type 0
IsJudgedFaulty limit shapes tables given change effect.Memory = Unit {0}
IsJudgedFaulty limit shapes tables given change (effect.Row row fault) = IsJudged limit shapes tables given change (Faulty row fault)

-- with the writes handed back
abbrev pub refused_by : EffectFault → Limited → EffectRefused
refused_by effect.Memory writes = refused.Memory
refused_by (effect.Row row fault) writes = refused.Row row fault writes

abbrev pub IsOfRow : ℕ → RowFault → EffectFault → Type 0
IsOfRow row fault effect.Memory = Unit {0}
IsOfRow row fault (effect.Row number found) = (number ≡ row) × (found ≡ fault)

-- over sound shapes, what a sound change writes fits them, where the writes so far do
abbrev pub EffectsFit : Type 0
EffectsFit = (shapes : Shapes) (tables : Tables) (given : Limited) (change : CheckedChange) (writes : Limited) (rows : ℕ)
    → AreSoundShapes shapes → IsSoundChange shapes change → FitTables shapes tables → FitWrites shapes given.list → Does shapes tables given change writes rows → FitWrites shapes writes.list
