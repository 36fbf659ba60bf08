use Rattle.pg_script.proofs.Whole.Waits.{waits_are_earlier}
use Rattle.pg_script.proofs.laws.waits_are_earlier.Goals as goal

pub returns : goal.returns
returns c = waits_are_earlier
