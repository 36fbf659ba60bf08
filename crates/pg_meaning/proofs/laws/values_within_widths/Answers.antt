use Rattle.pg_meaning.proofs.WidthLaws.{values_are_within}
use Rattle.pg_meaning.proofs.laws.values_within_widths.Goals as goal

pub returns : goal.returns
returns c = values_are_within
