use Rattle.std.proofs.Common.{◌≡◌, drop, map, ◌++◌}
use Rattle.pg_check.specs.Gathered.{mention_view}
use Rattle.pg_meaning.specs.Mentions.{mentions_from}
use Rattle.pg_rules.specs.Queries.Collections.{outlines}
use Rattle.pg_check.proofs.mentions.mentions_of_paths.Given as goal

abbrev pub invariant-loop-i : goal.invariant-loop-i
invariant-loop-i l = map mention_view l.out.items ++ mentions_from l.i (map outlines (drop l.i l.paths)) ≡ mentions_from 0 (map outlines l.paths)
