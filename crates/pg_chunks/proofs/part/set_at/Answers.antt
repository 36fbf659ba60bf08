use Rattle.std.proofs.Common.{length, ap, refl, subst, arith}
use Rattle.pg_chunks.specs.Parts.{IsPartOf}
use Rattle.pg_chunks.proofs.Splits.{start_at, before_next}
use Rattle.pg_chunks.proofs.Renewals.{is_set}
use Rattle.pg_chunks.proofs.part.set_at.Goals as goal

pub overflow_sub-within : goal.overflow_sub-within
overflow_sub-within g c =
    let p = subst (λ cs. IsPartOf c.part_at-part.result c.args.at cs) c.as_slice.ensures.value c.part_at-part.ensures in
    let a = start_at 0 c.args.full.now.items c.part_at-part.result c.index_mut-chunk.result.now c.requires.starts p.0 c.index_mut-chunk.ensures.value in
    let l = p.1 in
    omega arith

pub index_mut-requires : goal.index_mut-requires
index_mut-requires g c =
    let p = subst (λ cs. IsPartOf c.part_at-part.result c.args.at cs) c.as_slice.ensures.value c.part_at-part.ensures in
    let a = start_at 0 c.args.full.now.items c.part_at-part.result c.index_mut-chunk.result.now c.requires.starts p.0 c.index_mut-chunk.ensures.value in
    let n = before_next c.args.full.now.items c.part_at-part.result c.index_mut-chunk.result.now p.0 in
    let z = ap (λ b. length b.items.items) c.index_mut-chunk.ensures.value in
    let k = c.index_mut-chunk.result.now.items.ok in
    let l = p.1 in
    let h = p.2 in
    omega arith

pub returns : goal.returns
returns g c =
    let p = subst (λ cs. IsPartOf c.part_at-part.result c.args.at cs) c.as_slice.ensures.value c.part_at-part.ensures in
    is_set c.args.full.now.items c.part_at-part.result c.args.at c.index_mut-chunk.result.now _ c.args.item c.requires.starts c.requires.fills p c.index_mut-chunk.ensures.value refl refl
