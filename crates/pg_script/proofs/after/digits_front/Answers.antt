use Rattle.pg_lex.specs.Bytes.{is_digit}
use Rattle.pg_script.proofs.Passes.After.{longest_front}
use Rattle.pg_script.proofs.after.digits_front.Goals as goal

pub returns : goal.returns
returns c = longest_front is_digit c.args.bytes.now c.split_at.result.0.now c.split_at.result.1.now c.digits_len.result c.digits_len.ensures.value c.split_at.ensures.front c.split_at.ensures.back
