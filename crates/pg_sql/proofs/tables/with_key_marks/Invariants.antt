-- The keys of the marks so far.
use Rattle.std.proofs.Common.{◌≡◌, ◌++◌, [], ◌∷◌, take, map, filter}
use Rattle.pg_ast.specs.Grammar.Definitions.{is_primary}
use Rattle.pg_sql.proofs.tables.with_key_marks.Given as goal

abbrev pub invariant-loop-mark : goal.invariant-loop-mark
invariant-loop-mark l = l.keys ≡ l.fn.keys ++ map (λ _. l.name ∷ []) (filter is_primary (take l.mark-index l.marks))
