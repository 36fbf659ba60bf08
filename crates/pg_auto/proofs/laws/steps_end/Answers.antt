use Rattle.pg_auto.proofs.Steps.{steps_end}
use Rattle.pg_auto.proofs.laws.steps_end.Goals as goal

pub returns : goal.returns
returns c = steps_end
