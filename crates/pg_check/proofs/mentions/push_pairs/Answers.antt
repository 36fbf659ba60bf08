use Rattle.std.proofs.Common.{ℕ, List, map, drop, ◌++◌, ◌+◌}
use Rattle.pg_ast.specs.declared.pattern.Filler.{Filler}
use Rattle.pg_check.specs.Gathered.{spot_view, chain}
use Rattle.pg_check.proofs.MentionLaws.{turn_step, pair_at}
use Rattle.pg_check.proofs.Loops.{next_numbered}
use Rattle.pg_check.proofs.mentions.push_pairs.Goals as goal

pub loop-i-preserved : goal.loop-i-preserved
loop-i-preserved c = next_numbered (λ (k : ℕ) (ns : List Filler). chain c.args.part ns (drop k c.args.edges.now)) (pair_at c.args.part c.index-nodes-i.result c.args.edges.now c.loop-i.i) (map spot_view c.loop-i.out.items) (map spot_view c.push_pair.new.out.items) (map spot_view c.args.out.now.items ++ chain c.args.part c.args.nodes.now c.args.edges.now) c.args.nodes.now c.loop-i.i c.index-nodes-i.result c.loop-i-test.true c.index-nodes-i.is (turn_step c.args.part c.index-nodes-i.result (drop (c.loop-i.i + 1) c.args.nodes.now) c.args.edges.now c.loop-i.i) c.in_ok-push_pair.ensures c.loop-i.invariant
