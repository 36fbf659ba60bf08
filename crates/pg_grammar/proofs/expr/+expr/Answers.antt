-- Each function of expressions gives what its parser gives.
use Rattle.std.proofs.Common.{◌≡◌, false, ◌∙◌, rules, arith}
use Rattle.std.specs.Prelude.{nat_lt}
use Rattle.std.proofs.lemmas.Grind.{common_steps}
use Rattle.pg_ast.specs.Words.Terminals.{matches}
use Rattle.pg_grammar.specs.Kit.Reading.{turns, sees_if, sees_either}
use Rattle.pg_grammar.specs.Read.Exprs.{primary, next_factor, next_term, next_neg, next_conj, goes_on_prod, goes_on_sum, goes_on_conj, goes_on_any}
use Rattle.pg_ast.specs.Words.Exprs as word
use Rattle.pg_grammar.proofs.Turns.{one_more, turned_out, turned_enough}
use Rattle.pg_grammar.proofs.LabelSteps.{sees_guarded}
use Rattle.pg_grammar.proofs.ExprSteps.{unary_step, neg_step, primary_step}
use Rattle.pg_grammar.proofs.expr.+expr.Goals.{sum-else-loop-turn-test, sum-then-loop-turn-test+then-x-eq0, sum-then-x-eq0-via-then-x-eq0, sum-then-x-eq0-via-else-x-eq0+then-not-sees_either_symbol}
use Rattle.pg_grammar.proofs.expr.+expr.Goals as goal

pub unary-returns : goal.unary-returns
unary-returns t c = let e = unary_step (primary c.args.scope c.args.depth) c.args.left c.args.cursor.now in first_of (search rules, grind (arith, common_steps))

pub unary-returns-then-sees_symbol : goal.unary-returns-then-sees_symbol
unary-returns-then-sees_symbol t c = let e = unary_step (primary c.args.scope c.args.depth) c.args.left c.args.cursor.now in first_of (search rules, grind (arith, common_steps))

pub neg-returns-then-sees_word : goal.neg-returns-then-sees_word
neg-returns-then-sees_word t c = let e = neg_step (primary c.args.scope c.args.depth) c.args.left c.args.cursor.now in first_of (search rules, grind (arith, common_steps))

pub neg-returns : goal.neg-returns
neg-returns t c = let e = neg_step (primary c.args.scope c.args.depth) c.args.left c.args.cursor.now in first_of (search rules, grind (arith, common_steps))

pub primary-returns : goal.primary-returns
primary-returns t c = let e = primary_step c.args.scope c.args.depth c.args.left c.args.cursor.now in first_of (search rules, grind (arith, common_steps))

pub primary-returns-then-sees_symbol : goal.primary-returns-then-sees_symbol
primary-returns-then-sees_symbol t c = let e = primary_step c.args.scope c.args.depth c.args.left c.args.cursor.now in first_of (search rules, grind (arith, common_steps))

pub primary-returns-then-sees_aggregate : goal.primary-returns-then-sees_aggregate
primary-returns-then-sees_aggregate t c = let e = primary_step c.args.scope c.args.depth c.args.left c.args.cursor.now in first_of (search rules, grind (arith, common_steps))

pub prod-loop-turn-preserved : goal.prod-loop-turn-preserved
unfolding turns
prod-loop-turn-preserved t c =
    let e = one_more (λ n. turns n goes_on_prod (next_factor (primary c.args.scope c.args.depth)) c.loop-turn.x c.loop-turn.cursor) _ c.loop-turn._turn c.loop-turn-test.true c.loop-turn.invariant in
    let s = sees_guarded (nat_lt 0 c.loop-turn.x.left) (matches word.star) c.loop-turn.cursor in
    first_of (search rules, grind (arith, common_steps))

pub sum-loop-turn-preserved : goal.sum-loop-turn-preserved
unfolding turns
sum-loop-turn-preserved t c =
    let e = one_more (λ n. turns n goes_on_sum (next_term (primary c.args.scope c.args.depth)) c.loop-turn.x c.loop-turn.cursor) _ c.loop-turn._turn c.loop-turn-test.true c.loop-turn.invariant in
    let s = sees_guarded (nat_lt 0 c.loop-turn.x.left) (sees_either word.plus word.minus) c.loop-turn.cursor in
    first_of (search rules, grind (arith, common_steps))

pub conj-loop-turn-preserved : goal.conj-loop-turn-preserved
unfolding turns
conj-loop-turn-preserved t c =
    let e = one_more (λ n. turns n goes_on_conj (next_neg (primary c.args.scope c.args.depth)) c.loop-turn.x c.loop-turn.cursor) _ c.loop-turn._turn c.loop-turn-test.true c.loop-turn.invariant in
    let s = sees_guarded (nat_lt 0 c.loop-turn.x.left) (matches word.and_word) c.loop-turn.cursor in
    first_of (search rules, grind (arith, common_steps))

pub any_of-loop-turn-preserved : goal.any_of-loop-turn-preserved
unfolding turns
any_of-loop-turn-preserved t c =
    let e = one_more (λ n. turns n goes_on_any (next_conj (primary c.args.scope c.args.depth)) c.loop-turn.x c.loop-turn.cursor) _ c.loop-turn._turn c.loop-turn-test.true c.loop-turn.invariant in
    let s = sees_guarded (nat_lt 0 c.loop-turn.x.left) (matches word.or_word) c.loop-turn.cursor in
    first_of (search rules, grind (arith, common_steps))

pub sum-returns : goal.sum-returns
sum-returns t c =
    let step = next_term (primary c.args.scope c.args.depth) in
    let x = c.loop-turn.x in
    let l = c.loop-turn.cursor in
    let s = sees_guarded (nat_lt 0 x.left) (sees_either word.plus word.minus) l in
    c.loop-turn.invariant
    ∙ elim c.loop-turn-test.branch [
      | sum-else-loop-turn-test w ↦ turned_out goes_on_sum step _ c.loop-turn._turn x l w.loop-turn-test.false
      | sum-then-loop-turn-test+then-x-eq0 w ↦
          let stop : sees_if (goes_on_sum x) l ≡ false =
          elim w.then-x-eq0.branch [
            | sum-then-x-eq0-via-then-x-eq0 v ↦ (let none = v.if-x-eq0.true in first_of (search rules, grind (arith, common_steps)))
            | sum-then-x-eq0-via-else-x-eq0+then-not-sees_either_symbol v ↦
                (let a = v.sees_either_symbol.ensures in let b = v.if-not-sees_either_symbol.true in first_of (search rules, grind (arith, common_steps)))
          ] in
          turned_enough _ goes_on_sum step x l stop
    ]
