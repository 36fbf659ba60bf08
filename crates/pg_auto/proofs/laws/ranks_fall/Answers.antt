use Rattle.pg_auto.proofs.Ranks.{ranks_fall}
use Rattle.pg_auto.proofs.laws.ranks_fall.Goals as goal

pub returns : goal.returns
returns c = ranks_fall c.hops_are_neighbours.ensures
