use Rattle.pg_rules.proofs.Accepted.Queries.{accepted_queries_are_sound}
use Rattle.pg_rules.proofs.laws.accepted_queries_are_sound.Goals as goal

pub returns : goal.returns
returns c = accepted_queries_are_sound
