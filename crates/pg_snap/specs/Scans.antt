-- The rows of one table under the writes of runs, in order of their keys.
use Rattle.std.specs.Prelude.{◌≡◌, ◌<◌, ◌+◌, Bool, false, cond, List, [], ◌∷◌, map, length}
use Rattle.std.specs.Ordering.{is_eq, is_lt}
use Rattle.std.specs.declared.option.Option.{Option}
use Rattle.std.specs.declared.option.Option.TheVariants.{Some, None}
use Rattle.pg_keyed.specs.Keyed.{weave}
use Rattle.pg_value.specs.declared.value.Value.{Value}
use Rattle.pg_value.specs.declared.shape.TableNo.{TableNo}
use Rattle.pg_value.specs.declared.write.Write.{Write}
use Rattle.pg_value.specs.Order.{key_cmp}
use Rattle.pg_value.specs.Tables.{Stored}
use Rattle.pg_value.specs.TablesLaws.{key_of, key_named, writes_to}
use Rattle.pg_value.specs.Log.{row_given}
use Rattle.pg_run.specs.Runs.{RunOf}
use Rattle.pg_snap.specs.declared.changes.Change.{Change}
use Rattle.pg_snap.specs.declared.scan.Held.{Held}

-- two lists of writes to one table as one: where both have a key, the newer's
abbrev pub both : List Write → List Write → List Write
both older newer = weave key_named key_named (λ w. Some w) key_cmp older newer

-- the writes of runs to a table as one list
abbrev pub changes_on : TableNo → List Write → List RunOf → List Write
changes_on t ws [] = ws
changes_on t ws (run ∷ runs) = changes_on t (both ws (writes_to t run.writes)) runs

abbrev pub write_of : Change → Write
write_of c = c.write.now

abbrev pub writes_of : List Change → List Write
writes_of cs = map write_of cs

-- rows of one table under writes to it: one walk over both
abbrev pub under : List Stored → List Write → List Stored
under rows ws = weave key_of key_named row_given key_cmp rows ws

-- what a step of a scan gives: the first of what is left, until nothing is
abbrev pub Gives : List Stored → List Stored → Option Held → Type 0
Gives old new None = (old ≡ []) × (new ≡ [])
Gives old new (Some h) = (s : Stored) × (old ≡ s ∷ new) × (h.key.now ≡ s.key) × (h.row.now ≡ s.row)

-- the first row stands before a key
abbrev pub stands_before : List Value → List Stored → Bool
stands_before k [] = false
stands_before k (s ∷ rows) = is_lt (key_cmp (key_of s) k)

-- the rows without the first, where that has the key
abbrev pub without : List Value → List Stored → List Stored
without k [] = []
without k (s ∷ rows) = cond (is_eq (key_cmp (key_of s) k)) rows (s ∷ rows)

-- one step of a walk over two lists of writes: the first of both together, and the rests
abbrev pub Stepped : List Write → List Write → List Write → List Write → Option Write → Type 0
Stepped older newer older' newer' None = both older newer ≡ []
Stepped older newer older' newer' (Some w) = (both older newer ≡ w ∷ both older' newer') × (length older' + length newer' < length older + length newer)

abbrev pub write_if : Option Change → Option Write
write_if None = None
write_if (Some c) = Some (write_of c)
