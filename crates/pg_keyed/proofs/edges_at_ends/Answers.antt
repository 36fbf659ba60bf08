use Rattle.pg_keyed.proofs.Adjacency.{at_end_is}
use Rattle.pg_keyed.proofs.edges_at_ends.Goals as goal

pub returns : goal.returns
returns g c = λ place key vcmp cmp p o. at_end_is place key vcmp cmp p o
