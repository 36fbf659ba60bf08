use Rattle.std.proofs.Common.{ap, arith}
use Rattle.pg_chunks.proofs.Splits.{start_at}
use Rattle.pg_chunks.proofs.part.part_at.Goals as goal

pub loop-high-preserved-then-full-middle : goal.loop-high-preserved-then-full-middle
loop-high-preserved-then-full-middle g c =
    let i = c.loop-high.invariant in
    let t = c.loop-high-test.true in
    let o = i.order in
    let w = i.within in
    let s = start_at 0 c.args.full.now _ c.index-full-middle.result c.requires.starts (omega arith) c.index-full-middle.is in
    let z = ap (λ p. p.start) c.index-full-middle.is in
    let h = c.if-full-middle.true in
    record { order = omega arith; within = i.within; below = omega arith; above = i.above }

pub loop-high-preserved : goal.loop-high-preserved
loop-high-preserved g c =
    let i = c.loop-high.invariant in
    let t = c.loop-high-test.true in
    let o = i.order in
    let w = i.within in
    let s = start_at 0 c.args.full.now _ c.index-full-middle.result c.requires.starts (omega arith) c.index-full-middle.is in
    let z = ap (λ p. p.start) c.index-full-middle.is in
    let h = c.if-full-middle.false in
    record { order = omega arith; within = omega arith; below = i.below; above = omega arith }
