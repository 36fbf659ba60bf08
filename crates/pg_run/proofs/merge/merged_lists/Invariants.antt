use Rattle.pg_run.proofs.CutLaws.{WovenTo}
use Rattle.pg_run.proofs.merge.merged_lists.Given as goal

abbrev pub invariant-loop-table : goal.invariant-loop-table
invariant-loop-table l = WovenTo l.older l.newer l.table l.lists.items
