-- At most one statement.
use Rattle.pg_sql.proofs.StatementLaws.{one-tree}
use Rattle.pg_sql.proofs.statement.one_tree.Goals as goal

pub returns : goal.returns
returns c = one-tree
