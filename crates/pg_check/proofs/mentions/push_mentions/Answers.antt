use Rattle.std.proofs.Common.{ℕ, List, map, ◌++◌, ◌==◌, true}
use Rattle.pg_check.specs.declared.mentions.PlacedSpot.{PlacedSpot}
use Rattle.std.specs.Prelude.{filter_map}
use Rattle.pg_meaning.specs.Mentions.{mention_at}
use Rattle.pg_check.specs.Gathered.{spot_view, mention_view, marked, mention_of}
use Rattle.pg_check.proofs.MentionLaws.{mark_step}
use Rattle.pg_check.proofs.Loops.{next_numbered}
use Rattle.pg_check.proofs.mentions.push_mentions.Goals as goal

pub loop-i-preserved : goal.loop-i-preserved
loop-i-preserved c = next_numbered (λ (k : ℕ) (ss : List PlacedSpot). filter_map (mention_at c.args.path) (marked (k == 0) (map spot_view ss))) (mention_of c.args.path c.is_outermost.result c.index-spots-i.result) (map mention_view c.loop-i.out.items) (map mention_view c.push_mention.new.out.items) (map mention_view c.args.out.now.items ++ filter_map (mention_at c.args.path) (marked true (map spot_view c.args.spots.now))) c.args.spots.now c.loop-i.i c.index-spots-i.result c.loop-i-test.true c.index-spots-i.is (mark_step c.args.path c.loop-i.i c.is_outermost.result c.args.spots.now c.index-spots-i.result c.loop-i-test.true c.is_outermost.ensures) c.in_ok-push_mention.ensures c.loop-i.invariant
