-- One more label.
use Rattle.std.proofs.Common.{rules, arith}
use Rattle.std.proofs.lemmas.Grind.{common_steps}
use Rattle.pg_ast.specs.Words as keyword
use Rattle.pg_grammar.specs.Kit.Reading.{turns, sees_either}
use Rattle.pg_sql.specs.Read.Parts.{next}
use Rattle.pg_sql.specs.Read.Graphs.{label}
use Rattle.pg_sql.proofs.Turns.{one_more}
use Rattle.pg_sql.proofs.labels.label_list.Goals as goal

pub loop-turn-preserved : goal.loop-turn-preserved
unfolding turns
loop-turn-preserved c =
    let e = one_more (λ n. turns n (λ _. sees_either keyword.label keyword.default_word) (next (label c.args.table.now)) c.loop-turn.found c.loop-turn.cursor) _ c.loop-turn._turn c.loop-turn-test.true c.loop-turn.invariant in
    first_of (search rules, grind (arith, common_steps))
