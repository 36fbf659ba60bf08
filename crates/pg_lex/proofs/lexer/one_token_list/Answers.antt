use Rattle.pg_lex.specs.Once.{tokens_once}
use Rattle.pg_lex.proofs.lexer.one_token_list.Goals as goal

pub returns : goal.returns
returns c = tokens_once
