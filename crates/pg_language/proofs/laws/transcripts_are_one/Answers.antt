use Rattle.pg_meaning.specs.OneAnswer.{has_one_answer}
use Rattle.pg_language.proofs.laws.transcripts_are_one.Goals as goal

pub returns : goal.returns
returns c = λ empty limit script t t' asks a b. c.stepped_runs_are_one.ensures has_one_answer empty limit script t t' (c.language_is_exact.ensures script) asks a b
