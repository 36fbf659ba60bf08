use Rattle.pg_rules.proofs.QueryLaws.{mentions_are_kept, names_are_kept}
use Rattle.pg_rules.proofs.laws.checked_queries.Goals as goal

pub returns : goal.returns
returns c = record { mentions = mentions_are_kept; names = names_are_kept }
