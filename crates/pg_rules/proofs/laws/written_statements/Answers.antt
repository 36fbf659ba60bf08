use Rattle.pg_rules.proofs.Written.Statements.{statements_are_written, query_written}
use Rattle.pg_rules.proofs.laws.written_statements.Goals as goal

pub returns : goal.returns
returns c = record { statements = statements_are_written; queries = query_written }
