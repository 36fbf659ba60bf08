use Rattle.pg_search.proofs.follows.+follows.Given as goal

abbrev pub decreases-follows : goal.decreases-follows
decreases-follows l = l.count
