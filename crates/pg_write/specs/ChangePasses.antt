-- The places of faults in a change, as passes over its parts find them.
use Rattle.std.specs.Prelude.{ℕ, ◌≡◌, ◌+◌, not, ◌==◌, List, [], ◌∷◌, ◌++◌, length, slice_get, Option, Some, None}
use Rattle.pg_ast.specs.declared.expr.Whole.{Whole}
use Rattle.pg_ast.specs.declared.statement.SetItem.{SetItem}
use Rattle.pg_ast.specs.declared.statement.InsertTuple.{InsertTuple}
use Rattle.pg_ast.specs.Trees.{tree_of}
use Rattle.pg_rules.specs.declared.entry.ColumnEntry.{ColumnEntry}
use Rattle.pg_rules.specs.declared.fault.ResolveFault.{ResolveFault}
use Rattle.pg_rules.specs.declared.fault.ResolveFault.TheVariants as faults
use Rattle.pg_rules.specs.Places.{place_if}
use Rattle.pg_rules.specs.Definitions.Tables.{place_of}
use Rattle.pg_rules.specs.Definitions.Graphs.{missing}
use Rattle.pg_meaning.specs.declared.checked.CExpr.{CExpr}
use Rattle.pg_rules.specs.Changes.InsertJudgement.{resolved}
use Rattle.pg_meaning.specs.Typing.{no_names}
use Rattle.pg_rules.specs.Definitions.Entries.{kind_at}
use Rattle.pg_rules.specs.Changes.{named_in, is_place, wrong}

-- the column of an item of SET, or a name in its value, that is no column
abbrev pub missing_in_set : List ColumnEntry → SetItem → List ℕ
missing_in_set columns s = missing columns (s.column ∷ named_in s.value)

-- an item of SET that names a key column
abbrev pub key_set : List ColumnEntry → List ℕ → SetItem → List ℕ
key_set columns key s = place_if (is_place (place_of columns s.column) key) s.column.at

-- a tuple that has not this number of values
abbrev pub miscounted : ℕ → InsertTuple → List ℕ
miscounted number t = place_if (not (length t.values == number)) t.at

-- a value for the column at a place, and none where there is no place for it
abbrev pub wrong_for : List ColumnEntry → Option ℕ → Whole → List ℕ
wrong_for columns None w = []
wrong_for columns (Some place) w = wrong no_names (kind_at columns place) w

-- the values of a tuple, of which the first is for the column of this target
abbrev pub wrong_from : List ColumnEntry → List ℕ → ℕ → List Whole → List ℕ
wrong_from columns targets i [] = []
wrong_from columns targets i (w ∷ ws) = wrong_for columns (slice_get targets i) w ++ wrong_from columns targets (i + 1) ws

-- a value of an INSERT, which names no columns
abbrev pub resolved_value : Whole → CExpr
resolved_value w = resolved [] (tree_of w.expr)

-- want of memory is free; any other fault is the one that is found
abbrev pub IsFault : Option ResolveFault → ResolveFault → Type 0
IsFault o faults.Memory = Unit {0}
IsFault o (faults.NoTable at) = o ≡ Some (faults.NoTable at)
IsFault o (faults.NoColumn at) = o ≡ Some (faults.NoColumn at)
IsFault o (faults.ColumnTwice at) = o ≡ Some (faults.ColumnTwice at)
IsFault o (faults.Count at) = o ≡ Some (faults.Count at)
IsFault o (faults.KeyUpdate at) = o ≡ Some (faults.KeyUpdate at)
IsFault o (faults.Types at) = o ≡ Some (faults.Types at)
IsFault o (faults.Wide at) = o ≡ Some (faults.Wide at)
