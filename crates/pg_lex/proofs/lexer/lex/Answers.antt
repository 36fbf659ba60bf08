use Rattle.std.proofs.Common.{◌∙◌, sym, refl, arith}
use Rattle.pg_lex.proofs.StepLaws.{one_more, all_done}
use Rattle.pg_lex.proofs.lexer.lex.Goals as goal

pub tokens-preserved : goal.tokens-preserved
tokens-preserved c =
    let t = c.in_ok-token.token in
    let next = c.in_ok-token.ensures in
    record {
      within = omega (arith, next.high);
      so_far = one_more c.args.base c.tokens.at _ c.args.text.now c.tokens.out c.push.new.self t c.tokens.invariant.so_far next (sym c.is_last-done.ensures ∙ c.if-done.false) refl c.in_ok-push.ensures.ok;
    }

pub returns-then-done : goal.returns-then-done
returns-then-done c =
    let t = c.in_ok-token.token in
    all_done c.args.base c.tokens.at c.args.text.now c.tokens.out c.push.new.self t c.tokens.invariant.so_far c.in_ok-token.ensures (sym c.is_last-done.ensures ∙ c.if-done.true) c.in_ok-push.ensures.ok
