use Rattle.pg_rules.proofs.Accepted.LabelSets.{sets_are_of}
use Rattle.pg_rules.proofs.laws.table_sets.Goals as goal

pub returns : goal.returns
returns c = sets_are_of
