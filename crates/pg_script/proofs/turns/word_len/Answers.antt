use Rattle.std.proofs.Common.{◌≡◌, ◌∙◌, false, drop, sym, ap, arith}
use Rattle.pg_script.specs.Passes.{ends_word}
use Rattle.pg_script.proofs.Passes.Turns.{word_next}
use Rattle.pg_script.proofs.turns.word_len.Goals as goal

pub bytes-preserved : goal.bytes-preserved
bytes-preserved c =
    let stays : ends_word (drop c.bytes.at c.args.bytes.now) ≡ false = ap ends_word (sym c.split_at.ensures.back) ∙ (sym c.ends_word.ensures ∙ c.if-ends_word.false) in
    let next = word_next c.args.bytes.now c.bytes.at stays in
    record { within = omega (arith, next.0); so_far = omega (arith, next.1, c.bytes.invariant.so_far) }
