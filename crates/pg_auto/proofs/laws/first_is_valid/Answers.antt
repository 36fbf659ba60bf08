use Rattle.pg_auto.proofs.Ranks.{first_is_valid}
use Rattle.pg_auto.proofs.laws.first_is_valid.Goals as goal

pub returns : goal.returns
returns c = first_is_valid
