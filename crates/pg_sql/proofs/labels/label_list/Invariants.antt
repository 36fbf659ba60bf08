-- What the loop over the labels keeps.
use Rattle.std.proofs.Common.{◌≡◌, ◌-◌}
use Rattle.pg_ast.specs.Words as keyword
use Rattle.pg_grammar.specs.Kit.Reading.{turns, sees_either}
use Rattle.pg_sql.specs.Read.Parts.{next}
use Rattle.pg_sql.specs.Read.Graphs.{label, label_list}
use Rattle.pg_sql.proofs.labels.label_list.Given as goal

abbrev pub invariant-loop-turn : goal.invariant-loop-turn
invariant-loop-turn l = label_list l.table l.fn.cursor ≡ turns (l._turn-end - l._turn) (λ _. sees_either keyword.label keyword.default_word) (next (label l.table)) l.found l.cursor
