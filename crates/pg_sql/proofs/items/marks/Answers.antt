-- One more mark.
use Rattle.std.proofs.Common.{rules, arith}
use Rattle.std.proofs.lemmas.Grind.{common_steps}
use Rattle.pg_ast.specs.Words.{not_word, primary}
use Rattle.pg_grammar.specs.Kit.Reading.{turns, sees_either}
use Rattle.pg_sql.specs.Read.Parts.{next}
use Rattle.pg_sql.specs.Read.Tables.{mark}
use Rattle.pg_sql.proofs.Turns.{one_more}
use Rattle.pg_sql.proofs.items.marks.Goals as goal

pub loop-turn-preserved : goal.loop-turn-preserved
unfolding turns
loop-turn-preserved c =
    let e = one_more (λ n. turns n (λ _. sees_either not_word primary) (next mark) c.loop-turn.found c.loop-turn.cursor) _ c.loop-turn._turn c.loop-turn-test.true c.loop-turn.invariant in
    first_of (search rules, grind (arith, common_steps))
