use Rattle.std.proofs.Common.{length, ap, subst, arith}
use Rattle.pg_chunks.specs.Parts.{Fills, IsPartOf}
use Rattle.pg_chunks.proofs.Splits.{before_next, each_at}
use Rattle.pg_chunks.proofs.part.insert_at.Goals as goal

pub insert_roomy-requires-clause-room : goal.insert_roomy-requires-clause-room
insert_roomy-requires-clause-room g c =
    let p = subst (λ cs. IsPartOf c.part_at-part.result c.args.at cs) c.as_slice.ensures.value c.part_at-part.ensures in
    let n = before_next c.args.full.now.items c.part_at-part.result c.index.result.now p.0 in
    let z = ap (λ b. length b.items.items) c.index.ensures in
    let k = c.index.result.now.items.ok in
    let t = c.if-len-lt-MOST.true in
    let l = c.len.ensures in
    omega arith

pub insert_full-requires-clause-no_room : goal.insert_full-requires-clause-no_room
insert_full-requires-clause-no_room g c =
    let p = subst (λ cs. IsPartOf c.part_at-part.result c.args.at cs) c.as_slice.ensures.value c.part_at-part.ensures in
    let n = before_next c.args.full.now.items c.part_at-part.result c.index.result.now p.0 in
    let z = ap (λ b. length b.items.items) c.index.ensures in
    let k = c.index.result.now.items.ok in
    let f = (each_at Fills c.args.full.now.items c.part_at-part.result c.index.result.now c.requires.fills p.0).1 in
    let t = c.if-len-lt-MOST.false in
    let l = c.len.ensures in
    omega arith
