use Rattle.std.proofs.Common.{arith}
use Rattle.pg_chunks.specs.Digits.{digits_upper, digits_lower}
use Rattle.pg_chunks.proofs.Splits.{passes, stops}
use Rattle.pg_chunks.proofs.search.part_of.Goals as goal

pub loop-low-preserved-then-ends_before : goal.loop-low-preserved-then-ends_before
loop-low-preserved-then-ends_before g c =
    let i = c.loop-low.invariant in
    let t = c.loop-low-test.true in
    let d = digits_upper c.loop-low.low c.loop-low.high t in
    let w = i.within in
    let s = i.cost in
    let n = i.counts in
    let e = c.tick.ensures in
    record {
      order = omega arith;
      within = i.within;
      below = passes g.T.Keyed.key_of g.T.Keyed.key_cmp g.met.T.Keyed.exact (g.P.Probe.sought c.args.key.now) c.args.full.now _ c.index-full-middle.result _ c.requires.fills c.requires.ascends (omega arith) c.index-full-middle.is c.ends_before.ensures c.if-ends_before.true;
      above = i.above;
      cost = omega arith;
      counts = omega arith;
      some = λ z. omega arith;
    }

pub loop-low-preserved : goal.loop-low-preserved
loop-low-preserved g c =
    let i = c.loop-low.invariant in
    let t = c.loop-low-test.true in
    let d = digits_lower c.loop-low.low c.loop-low.high t in
    let w = i.within in
    let s = i.cost in
    let n = i.counts in
    let e = c.tick.ensures in
    record {
      order = omega arith;
      within = omega arith;
      below = i.below;
      above = λ l. stops g.T.Keyed.key_of g.T.Keyed.key_cmp g.met.T.Keyed.exact (g.P.Probe.sought c.args.key.now) c.args.full.now _ c.index-full-middle.result _ c.requires.fills (omega arith) c.index-full-middle.is c.ends_before.ensures c.if-ends_before.false;
      cost = omega arith;
      counts = omega arith;
      some = λ z. omega arith;
    }

pub returns-clause-some : goal.returns-clause-some
returns-clause-some g c z = let i = c.loop-low.invariant.some z in let t = c.loop-low-test.false in omega arith
