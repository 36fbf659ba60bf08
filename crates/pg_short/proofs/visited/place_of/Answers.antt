use Rattle.pg_short.proofs.TightSteps.{place_if, place_none}
use Rattle.pg_short.proofs.visited.place_of.Goals as goal

pub returns-clause-some : goal.returns-clause-some
returns-clause-some c = place_if c.args.spots.now.keys c.args.spot.now c.get_index_of.result c.get_index_of.ensures.index

pub returns-clause-none : goal.returns-clause-none
returns-clause-none c = place_none c.args.spots.now.keys c.args.spot.now c.get_index_of.result c.get_index_of.ensures.found
