use Rattle.std.proofs.Common.{◌≡◌, ◌++◌, drop}
use Rattle.std.specs.Option.{option_map}
use Rattle.pg_meaning.specs.CExprs.{ctree_of}
use Rattle.pg_write.specs.KeyOfCondition.{literals_for}
use Rattle.pg_write.proofs.keyed.literals_for.Given as goal

-- the literals so far, before those for the columns that are left
abbrev pub invariant-loop-column : goal.invariant-loop-column
invariant-loop-column l = option_map (λ vs. l.out ++ vs) (literals_for (ctree_of l.cond) (drop l.column-index l.columns)) ≡ literals_for (ctree_of l.cond) l.columns
