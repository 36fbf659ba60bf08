-- No mark so far is NOT NULL.
use Rattle.std.proofs.Common.{◌≡◌, drop}
use Rattle.std.specs.List.{list_any}
use Rattle.pg_ast.specs.Grammar.Definitions.{is_not_null}
use Rattle.pg_sql.proofs.tables.has_not_null.Given as goal

abbrev pub invariant-loop-mark : goal.invariant-loop-mark
invariant-loop-mark l = list_any is_not_null l.marks ≡ list_any is_not_null (drop l.mark-index l.marks)
