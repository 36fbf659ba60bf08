use Rattle.std.proofs.Common.{rules}
use Rattle.pg_lex.proofs.BlankLaws.{comment_at, white_at}
use Rattle.pg_lex.proofs.blanks.blank_len.Goals as goal

pub returns-in-45-clause-some : goal.returns-in-45-clause-some
returns-in-45-clause-some c = λ _. comment_at c.args.bytes.now c.line_len.result c.line_len.ensures.value c.in-45.len_at_least (search rules) (search rules)

pub returns-in-len1-up-clause-some : goal.returns-in-len1-up-clause-some
returns-in-len1-up-clause-some c = λ _. white_at c.args.bytes.now (search rules) (search rules)
