use Rattle.std.proofs.Common.{arith, length, ◌<◌, sym}
use Rattle.pg_log.proofs.Finds.{named_none, named_step}
use Rattle.pg_log.proofs.changed.least_named.Goals as goal

pub loop-at-init : goal.loop-at-init
loop-at-init c = sym (named_none 0 c.args.writes.now.list)

pub loop-at-preserved : goal.loop-at-preserved
loop-at-preserved c =
    let t = c.loop-at-test.true in
    let n = c.len-at-end.ensures.length in
    let w : c.loop-at.at < length c.args.commit.now.list = omega (arith, t, n) in
    named_step c.loop-at.at c.args.commit.now.list c.at.result.now c.args.writes.now.list c.loop-at.least c.place_in.result c.lesser-least.result w c.at.ensures c.loop-at.invariant c.place_in.ensures c.lesser-least.ensures
