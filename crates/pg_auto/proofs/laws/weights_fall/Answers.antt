use Rattle.pg_auto.proofs.Ranks.{weights_fall}
use Rattle.pg_auto.proofs.laws.weights_fall.Goals as goal

pub returns : goal.returns
returns c = weights_fall c.hops_are_neighbours.ensures
