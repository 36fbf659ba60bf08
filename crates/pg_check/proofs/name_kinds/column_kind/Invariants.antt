use Rattle.std.proofs.Common.{◌≡◌, drop}
use Rattle.pg_rules.specs.Changes.{names_of}
use Rattle.std.specs.Prelude.{None}
use Rattle.pg_check.proofs.name_kinds.column_kind.Given as goal

abbrev pub invariant-loop-column : goal.invariant-loop-column
invariant-loop-column l = names_of (drop l.column-index l.columns) None l.name ≡ names_of l.columns None l.name
