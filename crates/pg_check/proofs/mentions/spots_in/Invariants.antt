use Rattle.std.proofs.Common.{◌≡◌, drop, map, ◌++◌}
use Rattle.pg_check.specs.Gathered.{spot_view}
use Rattle.pg_meaning.specs.Outlines.{spots_from}
use Rattle.pg_rules.specs.Queries.Collections.{outline_of}
use Rattle.pg_check.proofs.mentions.spots_in.Given as goal

abbrev pub invariant-loop-i : goal.invariant-loop-i
invariant-loop-i l = map spot_view l.out.items ++ spots_from l.i (map outline_of (drop l.i l.parts)) ≡ spots_from 0 (map outline_of l.parts)
