use Rattle.pg_meaning.proofs.ReadLaws.{hops_are_neighbours}
use Rattle.pg_meaning.proofs.laws.hops_are_neighbours.Goals as goal

pub returns : goal.returns
returns c = hops_are_neighbours
