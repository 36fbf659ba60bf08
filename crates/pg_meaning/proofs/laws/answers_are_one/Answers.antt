use Rattle.pg_meaning.proofs.OneAnswer.{answers_are_one}
use Rattle.pg_meaning.proofs.laws.answers_are_one.Goals as goal

pub returns : goal.returns
returns c = answers_are_one
