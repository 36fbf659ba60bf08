-- Rows of tables, each beside its key, as they are lent.
use Rattle.std.specs.Prelude.{List, map}
use Rattle.pg_value.specs.Tables.{Stored}
use Rattle.pg_write.specs.declared.tables.HeldRow.{HeldRow}

abbrev pub stored_of : HeldRow → Stored
stored_of held = record { table = held.table; key = held.key.now; row = held.row.now }

abbrev pub all_stored : List HeldRow → List Stored
all_stored rows = map stored_of rows
