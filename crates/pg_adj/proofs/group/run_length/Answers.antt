use Rattle.std.proofs.Common.{arith, sym}
use Rattle.pg_adj.proofs.Sorting.{run_ends, run_all}
use Rattle.pg_adj.proofs.group.run_length.Goals as goal

pub returns-then-not-is_at : goal.returns-then-not-is_at
returns-then-not-is_at c = run_ends c.args.vertex.now.values c.args.seen.now c.loop-i.i c.index-seen-i.result c.loop-i-test.true c.index-seen-i.is (sym c.if-not-is_at.ensures) c.loop-i.invariant

pub returns : goal.returns
returns c = run_all c.args.vertex.now.values c.args.seen.now c.loop-i.i (let t = c.loop-i-test.false in omega arith) c.loop-i.invariant
