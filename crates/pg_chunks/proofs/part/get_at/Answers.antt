use Rattle.std.proofs.Common.{sym, ap, ◌-◌, ◌∙◌, arith}
use Rattle.std.specs.Prelude.{slice_get}
use Rattle.pg_chunks.proofs.Splits.{start_at, get_in}
use Rattle.pg_chunks.proofs.part.get_at.Goals as goal

pub overflow_sub-at : goal.overflow_sub-at
overflow_sub-at g c =
    let a = start_at 0 c.args.full.now _ c.index-full-part_at.result c.requires.starts c.part_at.ensures.0 c.index-full-part_at.is in
    let p = c.part_at.ensures.1 in
    let z = ap (λ b. b.start) c.index-full-part_at.is in
    omega arith

pub returns : goal.returns
returns g c = c.item_at.ensures ∙ ap (λ xs. slice_get xs (c.args.at - c.index-full-part_at.result.start)) c.as_slice.ensures.value ∙ sym (get_in c.args.full.now c.part_at.result c.args.at c.index-full-part_at.result c.requires.starts c.part_at.ensures c.index-full-part_at.is)
