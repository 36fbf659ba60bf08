use Rattle.std.proofs.Common.{◌≡◌, drop}
use Rattle.pg_rules.specs.Definitions.Tables.{is_named}
use Rattle.pg_catalog.proofs.table.entry.is_named.Given as goal

abbrev pub invariant-loop-name : goal.invariant-loop-name
invariant-loop-name l = is_named l.names l.text ≡ is_named (drop l.name-index l.names) l.text
