use Rattle.pg_rules.proofs.QueryLaws.{accepted}
use Rattle.pg_rules.proofs.laws.accepted_queries.Goals as goal

pub returns : goal.returns
returns c = accepted
