use Rattle.std.proofs.Common.{ap, arith}
use Rattle.pg_shared.proofs.Walks.{start_at}
use Rattle.pg_shared.proofs.part.part_at.Goals as goal

pub halves-preserved-then-parts-middle : goal.halves-preserved-then-parts-middle
halves-preserved-then-parts-middle g c =
    let i = c.halves.invariant in
    let t = c.halves-test.true in
    let o = i.order in
    let w = i.within in
    let s = start_at 0 c.args.parts.now _ c.index-parts-middle.result c.requires.starts (omega arith) c.index-parts-middle.is in
    let f = ap (λ p. p.before) c.index-parts-middle.is in
    let h = c.if-parts-middle.true in
    record { order = omega arith; within = i.within; below = omega arith; above = i.above }

pub halves-preserved : goal.halves-preserved
halves-preserved g c =
    let i = c.halves.invariant in
    let t = c.halves-test.true in
    let o = i.order in
    let w = i.within in
    let s = start_at 0 c.args.parts.now _ c.index-parts-middle.result c.requires.starts (omega arith) c.index-parts-middle.is in
    let f = ap (λ p. p.before) c.index-parts-middle.is in
    let h = c.if-parts-middle.false in
    record { order = omega arith; within = omega arith; below = i.below; above = omega arith }
