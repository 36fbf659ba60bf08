use Rattle.pg_language.proofs.Fitting.{language_is_fitting}
use Rattle.pg_language.proofs.laws.language_is_fitting.Goals as goal

pub returns : goal.returns
returns c = λ script. language_is_fitting script c.sound_definitions.ensures.nothing c.sound_definitions.ensures.kept c.resolved_expressions.ensures.changes
