use Rattle.std.proofs.Common.{ℕ, ◌+◌}
use Rattle.pg_script.proofs.Passes.Turns.{Reads, reads_from, turns_more, turns_all}
use Rattle.pg_script.proofs.turns.turns.Goals as goal

pub returns-then-len-eq0 : goal.returns-then-len-eq0
returns-then-len-eq0 c =
    let word : ℕ = c.words.at + c.gap_len.result in
    let r : Reads c.args.bytes.now c.words.at c.args.to word c.word_len-len.result =
    reads_from c.args.bytes.now c.words.at c.args.to c.gap_len.result c.word_len-len.result c.between.result.now c.between-in-words.result.now c.words.invariant.high c.requires.high
    c.between.ensures c.between-in-words.ensures c.gap_len.ensures.within c.gap_len.ensures.gap c.word_len-len.ensures.value c.word_len-len.ensures.within in
    turns_all c.args.bytes.now c.args.from c.args.to c.words.at word c.word_len-len.result c.words.out c.requires.high c.words.invariant r c.if-len-eq0.true

pub words-preserved : goal.words-preserved
words-preserved c =
    let word : ℕ = c.words.at + c.gap_len.result in
    let r : Reads c.args.bytes.now c.words.at c.args.to word c.word_len-len.result =
    reads_from c.args.bytes.now c.words.at c.args.to c.gap_len.result c.word_len-len.result c.between.result.now c.between-in-words.result.now c.words.invariant.high c.requires.high
    c.between.ensures c.between-in-words.ensures c.gap_len.ensures.within c.gap_len.ensures.gap c.word_len-len.ensures.value c.word_len-len.ensures.within in
    turns_more c.args.bytes.now c.args.from c.args.to c.words.at word c.word_len-len.result c.words.out c.push.new.self c.requires.high c.words.invariant r c.if-len-eq0.false c.in_ok-push.ensures.ok
