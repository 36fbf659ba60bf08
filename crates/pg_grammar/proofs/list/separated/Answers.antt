-- One more turn of the loop, and an item that is not read.
use Rattle.std.proofs.Common.{◌-◌, ◌∙◌, rules, arith}
use Rattle.std.proofs.lemmas.Grind.{common_steps}
use Rattle.pg_ast.specs.Words.Terminals.{matches}
use Rattle.pg_ast.specs.Words.Names.{comma}
use Rattle.pg_grammar.specs.Kit.Reading.{turns, next_item}
use Rattle.pg_grammar.proofs.Turns.{one_more, turned_out, turned_enough, unseen, stayed}
use Rattle.pg_grammar.proofs.list.separated.Goals.{else-loop-turn-test, then-loop-turn-test+then-not-eat_symbol}
use Rattle.pg_grammar.proofs.list.separated.Goals as goal

pub loop-turn-preserved : goal.loop-turn-preserved
unfolding turns
loop-turn-preserved g c = λ p h.
    let e = one_more (λ n. turns n (λ _. matches comma) (next_item comma p) c.loop-turn.found c.loop-turn.cursor) _ c.loop-turn._turn c.loop-turn-test.true (c.loop-turn.invariant p h) in
    let r = h.reads _ _ _ _ c.item-in-loop-turn.ensures in
    first_of (search rules, grind (arith, common_steps))

pub returns-in_err-item-2 : goal.returns-in_err-item-2
unfolding turns
returns-in_err-item-2 g c = λ p h.
    let e = one_more (λ n. turns n (λ _. matches comma) (next_item comma p) c.loop-turn.found c.loop-turn.cursor) _ c.loop-turn._turn c.loop-turn-test.true (c.loop-turn.invariant p h) in
    let r = h.reads _ _ _ _ c.item-in-loop-turn.ensures in
    first_of (search rules, grind (arith, common_steps))

pub returns : goal.returns
returns g c = λ p h.
    let x = c.loop-turn.found in
    let l = c.loop-turn.cursor in
    c.loop-turn.invariant p h
    ∙ elim c.loop-turn-test.branch [
      | else-loop-turn-test w ↦ (let e = turned_out (λ _. matches comma) (next_item comma p) _ c.loop-turn._turn x l w.loop-turn-test.false in cc (e, w.cursor-is))
      | then-loop-turn-test+then-not-eat_symbol w ↦
          (let s = unseen _ _ w.if-not-eat_symbol.true w.eat_symbol.ensures.came in
          let m = stayed _ _ _ w.if-not-eat_symbol.true w.eat_symbol.ensures.moved in
          let e = turned_enough (c.len-turn-end.result - c.loop-turn._turn) (λ _. matches comma) (next_item comma p) x l s in
          cc (e, m, w.cursor-is))
    ]
