use Rattle.pg_run.proofs.CutLaws.{woven_cut, woven_whole, if_ok}
use Rattle.pg_run.proofs.merge.merged_writes.Goals as goal

pub returns-clause-whole : goal.returns-clause-whole
returns-clause-whole c = if_ok c.merged_lists.result _ _ (λ lists w. woven_whole c.args.older.now c.args.newer.now lists.items c.requires.older c.requires.newer w) c.merged_lists.ensures

pub returns-clause-cut : goal.returns-clause-cut
returns-clause-cut c = if_ok c.merged_lists.result _ _ (λ lists w. woven_cut c.args.older.now c.args.newer.now lists.items c.requires.older c.requires.newer w) c.merged_lists.ensures
