use Rattle.pg_view.proofs.ListsLaws.{lists_are_tables}
use Rattle.pg_view.proofs.laws.lists_are_tables.Goals as goal

pub returns : goal.returns
returns c = lists_are_tables
