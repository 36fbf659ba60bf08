use Rattle.std.proofs.Common.{◌^◌, length, sym, ap, refl, subst, arith}
use Rattle.pg_chunks.specs.Parts.{Grown}
use Rattle.pg_chunks.proofs.Splits.{start_at, before_next}
use Rattle.pg_chunks.proofs.Raises.{starts_within, within_set, within_at}
use Rattle.pg_chunks.proofs.Renewals.{grown_roomy, same_set}
use Rattle.pg_chunks.proofs.part.insert_roomy.Goals as goal

pub overflow_sub-at : goal.overflow_sub-at
overflow_sub-at g c =
    let a = start_at 0 c.args.full.now.items c.args.part c.index_mut-chunk.result.now c.requires.starts c.requires.part.0 c.index_mut-chunk.ensures.value in
    let p = c.requires.part.1 in
    omega arith

pub insert-requires : goal.insert-requires
insert-requires g c =
    let a = start_at 0 c.args.full.now.items c.args.part c.index_mut-chunk.result.now c.requires.starts c.requires.part.0 c.index_mut-chunk.ensures.value in
    let n = before_next c.args.full.now.items c.args.part c.index_mut-chunk.result.now c.requires.part.0 in
    let z = ap (λ b. length b.items.items) c.index_mut-chunk.ensures.value in
    let k = c.index_mut-chunk.result.now.items.ok in
    let p = c.requires.part.1 in
    let q = c.requires.part.2 in
    omega arith

pub raise_all-requires-clause-bound : goal.raise_all-requires-clause-bound
raise_all-requires-clause-bound g c =
    let b = c.requires.bound in
    let w = starts_within 0 (2 ^ 62) c.args.full.now.items c.requires.starts (omega arith) in
    within_set (2 ^ 62) c.args.full.now.items c.args.part _ w (within_at (2 ^ 62) c.args.full.now.items c.args.part c.index_mut-chunk.result.now w c.requires.part.0 c.index_mut-chunk.ensures.value)

pub returns-in-Ok-clause-ok : goal.returns-in-Ok-clause-ok
returns-in-Ok-clause-ok g c =
    subst (λ ds. Grown c.args.full.now.items c.args.at c.args.item ds) (sym c.raise_all.ensures)
    (grown_roomy c.args.full.now.items c.args.part c.args.at c.index_mut-chunk.result.now _ c.args.item c.requires.starts c.requires.fills c.requires.part c.requires.room c.index_mut-chunk.ensures.value refl c.in-Ok.ensures.items)

pub returns-in-Err-clause-err : goal.returns-in-Err-clause-err
returns-in-Err-clause-err g c =
    same_set c.args.full.now.items c.args.part c.index_mut-chunk.result.now _ c.requires.starts c.requires.fills c.requires.part.0 c.index_mut-chunk.ensures.value refl c.in-Err.ensures.items
