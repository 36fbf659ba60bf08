-- At most one query at a place.
use Rattle.pg_pattern.proofs.QueryPlaces.{one-query}
use Rattle.pg_pattern.proofs.tables.one_query.Goals as goal

pub returns : goal.returns
returns c = one-query
