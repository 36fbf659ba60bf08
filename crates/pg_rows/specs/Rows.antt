-- Rows of several tables, and writes to them.
use Rattle.std.specs.Prelude.{ℕ, ◌≡◌, List, [], get_or}
use Rattle.pg_keyed.specs.Lists.{Each}
use Rattle.pg_keyed.specs.Keyed.{Ascends}
use Rattle.pg_value.specs.declared.write.Write.{Write}
use Rattle.pg_value.specs.Order.{key_cmp}
use Rattle.pg_value.specs.Tables.{Stored}
use Rattle.pg_value.specs.TablesLaws.{key_named, put_in}

-- each list of writes is in order of the keys
abbrev pub AreInOrder : List (List Write) → Type 0
AreInOrder lists = Each (λ ws. Ascends key_named key_cmp ws) lists

-- each table's rows are what it had, under the writes in the list of its number; what is beyond lists is empty
abbrev pub AreUnder : List (List Stored) → List (List Write) → List (List Stored) → Type 0
AreUnder tables lists new = (t : ℕ) → get_or new t [] ≡ put_in (get_or tables t []) (get_or lists t [])
