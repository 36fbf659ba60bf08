-- Writes in one list for each table.
use Rattle.std.specs.Prelude.{ℕ, ◌≡◌, ◌+◌, ◌<◌, ◌==◌, cond, List, [], ◌∷◌, ◌++◌, map, length}
use Rattle.std.specs.declared.option.Option.{Option}
use Rattle.std.specs.declared.option.Option.TheVariants.{Some, None}
use Rattle.std.specs.List.{AllZip}
use Rattle.pg_keyed.specs.Keyed.{Each, Ascends, weave}
use Rattle.pg_value.specs.declared.shape.EdgeShape.{EdgeShape}
use Rattle.pg_value.specs.declared.write.Write.{Write}
use Rattle.pg_value.specs.Order.{key_cmp}
use Rattle.pg_value.specs.Tables.{Stored}
use Rattle.pg_value.specs.TablesLaws.{key_named}
use Rattle.pg_value.specs.Log.{row_given}
use Rattle.pg_adj.specs.declared.ends.EdgeEnds.{EdgeEnds}
use Rattle.pg_adj.specs.declared.adj.BothEnds.{BothEnds}
use Rattle.pg_adj.specs.Adjacency.{AreBoth}
use Rattle.pg_view.specs.RowEnds.{ends_in}
use Rattle.pg_run.specs.Runs.{ends_given}

-- the writes of all lists, one list after another
abbrev pub joined : List (List Write) → List Write
joined [] = []
joined (ws ∷ lists) = ws ++ joined lists

-- writes to one table, in order of their keys
pub record AreOf (t : ℕ) (ws : List Write) : Type 0 where
  pub own : Each (λ w. w.table.0 ≡ t) ws
  pub ascend : Ascends key_named key_cmp ws

-- each list has the writes of the table of its number, counted from t on
abbrev pub AreCut : ℕ → List (List Write) → Type 0
AreCut t [] = Unit {0}
AreCut t (ws ∷ lists) = AreOf t ws × AreCut (t + 1) lists

-- each write is to one of the first n tables
abbrev pub AreWithin : ℕ → List Write → Type 0
AreWithin n ws = Each (λ w. w.table.0 < n) ws

-- the writes to a table with which a list begins
abbrev pub leading : ℕ → List Write → List Write
leading t [] = []
leading t (w ∷ ws) = cond (w.table.0 == t) (w ∷ leading t ws) []

-- writes to one table as one list: where both have a key, the newer's
abbrev pub woven : List Write → List Write → List Write
woven older newer = weave key_named key_named (λ w. Some w) key_cmp older newer

-- one step of a walk over both: the first write of both together, and the rests
abbrev pub Stepped : List Write → List Write → List Write → List Write → Option Write → Type 0
Stepped older newer older' newer' None = woven older newer ≡ []
Stepped older newer older' newer' (Some w) = (woven older newer ≡ w ∷ woven older' newer') × (length older' + length newer' < length older + length newer)

abbrev pub ends_if : EdgeShape → Option Stored → Option EdgeEnds
ends_if shape None = None
ends_if shape (Some s) = ends_in shape s

-- what the row that a write gives names as its ends, if it gives one that names both
abbrev pub write_ends : EdgeShape → Write → Option EdgeEnds
write_ends shape w = ends_if shape (row_given w)

-- the adjacency of the rows that writes give to the edge tables
abbrev pub AreEnds : List EdgeShape → List Write → List BothEnds → Type 0
AreEnds shapes writes ends = AllZip AreBoth (map (λ shape. ends_given shape writes) shapes) ends
