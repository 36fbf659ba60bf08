use Rattle.pg_auto.proofs.Ways.{ways_are_walks}
use Rattle.pg_auto.proofs.laws.ways_are_walks.Goals as goal

pub returns : goal.returns
returns c = ways_are_walks
