-- What the loop over the parts of a path pattern keeps.
use Rattle.std.proofs.Common.{◌≡◌, ◌-◌}
use Rattle.pg_grammar.specs.Kit.Reading.{turns}
use Rattle.pg_grammar.specs.Kit.Sets.{any}
use Rattle.pg_pattern.specs.Read.Patterns.{parts, next_block, parts_on}
use Rattle.pg_pattern.proofs.paths.parts.Given as goal

abbrev pub invariant-loop-turn : goal.invariant-loop-turn
invariant-loop-turn l = parts l.fn.cursor ≡ turns (l._turn-end - l._turn) (λ _. any parts_on) next_block l.found l.cursor
