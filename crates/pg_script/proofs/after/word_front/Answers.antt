use Rattle.pg_lex.specs.Bytes.{is_word_byte}
use Rattle.pg_script.proofs.Passes.After.{longest_front}
use Rattle.pg_script.proofs.after.word_front.Goals as goal

pub returns : goal.returns
returns c = longest_front is_word_byte c.args.bytes.now c.split_at.result.0.now c.split_at.result.1.now c.word_len.result c.word_len.ensures.value c.split_at.ensures.front c.split_at.ensures.back
