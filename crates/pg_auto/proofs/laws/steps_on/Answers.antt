use Rattle.pg_auto.proofs.Steps.{steps_on}
use Rattle.pg_auto.proofs.laws.steps_on.Goals as goal

pub returns : goal.returns
returns c = steps_on c.hops_are_neighbours.ensures
