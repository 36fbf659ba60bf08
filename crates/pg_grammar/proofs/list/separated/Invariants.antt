-- What the loop over the commas keeps.
use Rattle.std.proofs.Common.{◌≡◌, ◌-◌}
use Rattle.pg_ast.specs.Words.Terminals.{matches}
use Rattle.pg_ast.specs.Words.Names.{comma}
use Rattle.pg_grammar.specs.Kit.Reading.{Parser, turns, next_item, separated}
use Rattle.pg_grammar.specs.Kit.Callable.{IsReader}
use Rattle.pg_grammar.proofs.list.separated.Given as goal

abbrev pub invariant-loop-turn : goal.invariant-loop-turn
invariant-loop-turn g l = (p : Parser g.row.T.Denot) → IsReader p (goal.F-post g l.item) → separated comma p l.fn.cursor ≡ turns (l._turn-end - l._turn) (λ _. matches comma) (next_item comma p) l.found l.cursor
