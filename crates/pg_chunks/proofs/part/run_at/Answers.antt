use Rattle.std.proofs.Common.{◌-◌, length, drop, sym, ap, subst, ◌∙◌, arith}
use Rattle.pg_chunks.specs.Parts.{joined, IsRun}
use Rattle.pg_chunks.proofs.Splits.{start_at, before_next}
use Rattle.pg_chunks.proofs.Walks.{run_in}
use Rattle.pg_chunks.proofs.part.run_at.Goals as goal

pub overflow_sub-at : goal.overflow_sub-at
overflow_sub-at g c =
    let a = start_at 0 c.args.full.now _ c.index-full-part_at.result c.requires.starts c.part_at.ensures.0 c.index-full-part_at.is in
    let p = c.part_at.ensures.1 in
    let z = ap (λ b. b.start) c.index-full-part_at.is in
    omega arith

pub items_from-requires : goal.items_from-requires
items_from-requires g c =
    let a = start_at 0 c.args.full.now _ c.index-full-part_at.result c.requires.starts c.part_at.ensures.0 c.index-full-part_at.is in
    let n = before_next c.args.full.now c.part_at.result c.index-full-part_at.result c.part_at.ensures.0 in
    let y = ap (λ b. length b.items.items) c.index-full-part_at.is in
    let x = ap length c.as_slice.ensures.value in
    let p = c.part_at.ensures.1 in
    let q = c.part_at.ensures.2 in
    omega arith

pub returns : goal.returns
returns g c =
    subst (λ xs. IsRun c.args.at (joined c.args.full.now) xs) (sym (c.items_from.ensures ∙ ap (λ xs. drop (c.args.at - c.index-full-part_at.result.start) xs) c.as_slice.ensures.value))
    (run_in c.args.full.now c.part_at.result c.args.at c.index-full-part_at.result c.requires.starts c.part_at.ensures c.index-full-part_at.is)
