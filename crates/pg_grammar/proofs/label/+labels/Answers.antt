-- Each function of label expressions gives what its parser gives.
use Rattle.std.proofs.Common.{rules, arith}
use Rattle.std.specs.Prelude.{nat_lt}
use Rattle.std.proofs.lemmas.Grind.{common_steps}
use Rattle.pg_ast.specs.Words.Terminals.{matches}
use Rattle.pg_grammar.specs.Kit.Reading.{turns}
use Rattle.pg_grammar.specs.Read.Labels.{primary, next_complement, next_intersection, goes_on_and, goes_on_or}
use Rattle.pg_ast.specs.Words.Names as word
use Rattle.pg_grammar.proofs.Turns.{one_more}
use Rattle.pg_grammar.proofs.LabelSteps.{sees_guarded, complement_step, primary_step}
use Rattle.pg_grammar.proofs.label.+labels.Goals as goal

pub complement-returns : goal.complement-returns
complement-returns t c = let e = complement_step (primary c.args.depth) c.args.left c.args.cursor.now in first_of (search rules, grind (arith, common_steps))

pub complement-returns-then-eat_symbol : goal.complement-returns-then-eat_symbol
complement-returns-then-eat_symbol t c = let e = complement_step (primary c.args.depth) c.args.left c.args.cursor.now in first_of (search rules, grind (arith, common_steps))

pub primary-returns : goal.primary-returns
primary-returns t c = let e = primary_step c.args.depth c.args.left c.args.cursor.now in first_of (search rules, grind (arith, common_steps))

pub primary-returns-then-sees_symbol : goal.primary-returns-then-sees_symbol
primary-returns-then-sees_symbol t c = let e = primary_step c.args.depth c.args.left c.args.cursor.now in first_of (search rules, grind (arith, common_steps))

pub intersection-loop-turn-preserved : goal.intersection-loop-turn-preserved
unfolding turns
intersection-loop-turn-preserved t c =
    let e = one_more (λ n. turns n goes_on_and (next_complement (primary c.args.depth)) c.loop-turn.x c.loop-turn.cursor) _ c.loop-turn._turn c.loop-turn-test.true c.loop-turn.invariant in
    let s = sees_guarded (nat_lt 0 c.loop-turn.x.left) (matches word.ampersand) c.loop-turn.cursor in
    first_of (search rules, grind (arith, common_steps))

pub union-loop-turn-preserved : goal.union-loop-turn-preserved
unfolding turns
union-loop-turn-preserved t c =
    let e = one_more (λ n. turns n goes_on_or (next_intersection (primary c.args.depth)) c.loop-turn.x c.loop-turn.cursor) _ c.loop-turn._turn c.loop-turn-test.true c.loop-turn.invariant in
    let s = sees_guarded (nat_lt 0 c.loop-turn.x.left) (matches word.bar) c.loop-turn.cursor in
    first_of (search rules, grind (arith, common_steps))
