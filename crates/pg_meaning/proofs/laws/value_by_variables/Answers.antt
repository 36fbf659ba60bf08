use Rattle.pg_meaning.proofs.MeaningLaws.{same_value}
use Rattle.pg_meaning.proofs.laws.value_by_variables.Goals as goal

pub returns : goal.returns
returns c = same_value
