-- Languages whose changes write what fits, and what their legal transcripts then have: a log that fits.
use Rattle.std.specs.Prelude.{ℕ, ◌≡◌, List, slice_get}
use Rattle.std.specs.declared.option.Option.TheVariants.{Some}
use Rattle.pg_keyed.specs.Lists.{Each}
use Rattle.pg_value.specs.declared.shape.TableShape.{TableShape}
use Rattle.pg_value.specs.declared.shape.Shapes.{Shapes}
use Rattle.pg_value.specs.declared.write.Write.{Write}
use Rattle.pg_value.specs.declared.write.Commit.{Commit}
use Rattle.pg_value.specs.Tables.{Tables, FitTables, FitWrites}
use Rattle.pg_value.specs.Writes.{IsInOrder}
use Rattle.pg_script.specs.Judged.{Fine, Done, Judges}

-- each table of the first stands in the second at its place
abbrev pub Extends : Shapes → Shapes → Type 0
Extends old new = (t : ℕ) (shape : TableShape) → slice_get old.tables t ≡ Some shape → slice_get new.tables t ≡ Some shape

-- writes in order, no place twice, which fit the shapes
pub record AreFit (shapes : Shapes) (writes : List Write) : Type 0 where
  pub in_order : IsInOrder writes
  pub fit : FitWrites shapes writes

-- a catalog that accepted definitions lead to
pub data Reached {K D C Q X Y : Type 0} (J : Judges K D C Q X Y) (empty : K) : K → Type 0 where
  begins : Reached J empty empty
  defines : (old k : K) (d : D) (name : List ℕ)
      → Reached J empty old
      → J.defines old d (Fine (name, k))
      → Reached J empty k

-- A language whose definitions leave the tables that there are at their places, and whose changes leave writes that are fit over tables that fit and
-- writes that are fit, under any shapes that extend the catalog's.
pub record IsFitting {K D C Q X Y : Type 0} (J : Judges K D C Q X Y) (empty : K) : Type 0 where
  pub extends : (k : K) (d : D) (name : List ℕ) (k' : K) → J.defines k d (Fine (name, k')) → Extends (J.shapes k) (J.shapes k')
  pub writes : (k : K) (c : C) (x : X) (shapes : Shapes) (tables : Tables) (ws ws' : List Write) (rows : ℕ)
      → Reached J empty k
      → Extends (J.shapes k) shapes
      → FitTables shapes tables
      → AreFit shapes ws
      → J.resolves k c (Fine x)
      → J.affects k tables ws x (Done ws' rows)
      → AreFit shapes ws'

-- each commit's writes are fit
abbrev pub LogFits : Shapes → List Commit → Type 0
LogFits shapes log = Each (λ c. AreFit shapes c.writes.list) log
