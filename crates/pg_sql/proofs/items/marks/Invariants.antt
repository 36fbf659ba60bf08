-- What the loop over the marks keeps.
use Rattle.std.proofs.Common.{◌≡◌, ◌-◌}
use Rattle.pg_ast.specs.Words.{not_word, primary}
use Rattle.pg_grammar.specs.Kit.Reading.{turns, sees_either}
use Rattle.pg_sql.specs.Read.Parts.{next}
use Rattle.pg_sql.specs.Read.Tables.{mark, marks}
use Rattle.pg_sql.proofs.items.marks.Given as goal

abbrev pub invariant-loop-turn : goal.invariant-loop-turn
invariant-loop-turn l = marks l.fn.cursor ≡ turns (l._turn-end - l._turn) (λ _. sees_either not_word primary) (next mark) l.found l.cursor
