use Rattle.pg_meaning.proofs.WidthLaws.{values_are_narrow}
use Rattle.pg_meaning.proofs.laws.narrow_values.Goals as goal

pub returns : goal.returns
returns c = values_are_narrow
