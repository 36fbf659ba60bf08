use Rattle.pg_language.proofs.Exact.{language_is_exact}
use Rattle.pg_language.proofs.laws.language_is_exact.Goals as goal

pub returns : goal.returns
returns c = language_is_exact c.one_token_list.ensures c.one_tree.ensures c.answers_are_one.ensures
