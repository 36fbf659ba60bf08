use Rattle.pg_run.proofs.CutLaws.{CutTo}
use Rattle.pg_run.proofs.cut.cut.Given as goal

abbrev pub invariant-tables : goal.invariant-tables
invariant-tables l = CutTo l.writes.list l.table l.at l.lists.items
