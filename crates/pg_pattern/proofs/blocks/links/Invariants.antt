-- What the loop over the links of a chain keeps.
use Rattle.std.proofs.Common.{◌≡◌, ◌-◌}
use Rattle.pg_grammar.specs.Kit.Reading.{turns}
use Rattle.pg_grammar.specs.Kit.Sets.{any}
use Rattle.pg_pattern.specs.Read.Patterns.{links, link, edge_first}
use Rattle.pg_pattern.proofs.blocks.links.Given as goal

abbrev pub invariant-loop-turn : goal.invariant-loop-turn
invariant-loop-turn l = links l.fn.chain l.fn.cursor ≡ turns (l._turn-end - l._turn) (λ _. any edge_first) link l.found l.cursor
