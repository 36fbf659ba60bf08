-- One more link.
use Rattle.std.proofs.Common.{rules, arith}
use Rattle.std.proofs.lemmas.Grind.{common_steps}
use Rattle.pg_grammar.specs.Kit.Reading.{turns}
use Rattle.pg_grammar.specs.Kit.Sets.{any}
use Rattle.pg_pattern.specs.Read.Patterns.{link, edge_first}
use Rattle.pg_pattern.proofs.Turns.{one_more}
use Rattle.pg_pattern.proofs.blocks.links.Goals as goal

pub loop-turn-preserved : goal.loop-turn-preserved
unfolding turns
loop-turn-preserved c =
    let e = one_more (λ n. turns n (λ _. any edge_first) link c.loop-turn.found c.loop-turn.cursor) _ c.loop-turn._turn c.loop-turn-test.true c.loop-turn.invariant in
    first_of (search rules, grind (arith, common_steps))
