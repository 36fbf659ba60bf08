use Rattle.std.proofs.Common.{◌≡◌, drop, map, ◌++◌}
use Rattle.std.specs.Prelude.{filter_map, true, ◌==◌}
use Rattle.pg_check.specs.Gathered.{spot_view, mention_view, marked}
use Rattle.pg_meaning.specs.Mentions.{mention_at}
use Rattle.pg_check.proofs.mentions.push_mentions.Given as goal

abbrev pub invariant-loop-i : goal.invariant-loop-i
invariant-loop-i l = map mention_view l.out.items ++ filter_map (mention_at l.path) (marked (l.i == 0) (map spot_view (drop l.i l.spots))) ≡ map mention_view l.fn.out.items ++ filter_map (mention_at l.path) (marked true (map spot_view l.spots))
