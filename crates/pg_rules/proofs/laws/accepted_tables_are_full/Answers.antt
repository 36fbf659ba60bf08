use Rattle.pg_rules.proofs.Accepted.Tables.{accepted_tables_are_full}
use Rattle.pg_rules.proofs.laws.accepted_tables_are_full.Goals as goal

pub returns : goal.returns
returns c = accepted_tables_are_full
