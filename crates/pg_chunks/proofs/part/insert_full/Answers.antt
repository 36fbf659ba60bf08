use Rattle.std.proofs.Common.{◌+◌, ◌^◌, ◌∙◌, length, get_or, sym, ap, refl, subst, arith}
use Rattle.pg_chunks.specs.Parts.{StartsWithin}
use Rattle.pg_chunks.proofs.Splits.{start_at, before_next, before_within}
use Rattle.pg_chunks.proofs.Raises.{starts_within, within_set, within_insert}
use Rattle.pg_chunks.proofs.Renewals.{split_in, same_in}
use Rattle.pg_chunks.proofs.part.insert_full.Goals as goal

pub overflow_sub-at : goal.overflow_sub-at
overflow_sub-at g c =
    let e = c.index_mut-chunk.ensures.value ∙ ap (λ cs. get_or cs c.args.part c.index_mut-chunk.result.now) c.reserve.ensures.items in
    let a = start_at 0 c.args.full.now.items c.args.part c.index_mut-chunk.result.now c.requires.starts c.requires.part.0 e in
    let p = c.requires.part.1 in
    omega arith

pub insert_split-requires-clause-full : goal.insert_split-requires-clause-full
insert_split-requires-clause-full g c =
    let e = c.index_mut-chunk.ensures.value ∙ ap (λ cs. get_or cs c.args.part c.index_mut-chunk.result.now) c.reserve.ensures.items in
    let n = before_next c.args.full.now.items c.args.part c.index_mut-chunk.result.now c.requires.part.0 in
    let z = ap (λ b. length b.items.items) e in
    let r = c.requires.no_room in
    omega arith

pub insert_split-requires-clause-within : goal.insert_split-requires-clause-within
insert_split-requires-clause-within g c =
    let e = c.index_mut-chunk.ensures.value ∙ ap (λ cs. get_or cs c.args.part c.index_mut-chunk.result.now) c.reserve.ensures.items in
    let a = start_at 0 c.args.full.now.items c.args.part c.index_mut-chunk.result.now c.requires.starts c.requires.part.0 e in
    let p = c.requires.part.1 in
    let q = c.requires.part.2 in
    let r = c.requires.no_room in
    omega arith

pub overflow_add-behind : goal.overflow_add-behind
overflow_add-behind g c =
    let e = c.index_mut-chunk.ensures.value ∙ ap (λ cs. get_or cs c.args.part c.index_mut-chunk.result.now) c.reserve.ensures.items in
    let a = start_at 0 c.args.full.now.items c.args.part c.index_mut-chunk.result.now c.requires.starts c.requires.part.0 e in
    let w = before_within c.args.full.now.items (c.args.part + 1) in
    let r = c.requires.no_room in
    let b = c.requires.bound in
    omega arith

pub raise_all-requires-clause-bound : goal.raise_all-requires-clause-bound
raise_all-requires-clause-bound g c =
    let e = c.index_mut-chunk.ensures.value ∙ ap (λ cs. get_or cs c.args.part c.index_mut-chunk.result.now) c.reserve.ensures.items in
    let a = start_at 0 c.args.full.now.items c.args.part c.index_mut-chunk.result.now c.requires.starts c.requires.part.0 e in
    let v = before_within c.args.full.now.items (c.args.part + 1) in
    let r = c.requires.no_room in
    let b = c.requires.bound in
    let w = subst (λ cs. StartsWithin (2 ^ 62) cs) (sym c.reserve.ensures.items) (starts_within 0 (2 ^ 62) c.args.full.now.items c.requires.starts (omega arith)) in
    subst (λ cs. StartsWithin (2 ^ 62) cs) (sym c.in-Ok-insert.ensures.items)
    (within_insert (2 ^ 62) _ (c.args.part + 1) _ (within_set (2 ^ 62) _ c.args.part _ w (omega arith)) (omega arith))

pub returns-in-Ok-insert-clause-ok : goal.returns-in-Ok-insert-clause-ok
returns-in-Ok-insert-clause-ok g c =
    split_in c.args.full.now.items c.reserve.new.self.items c.insert.new.self.items c.raise_all.new.full.items c.args.part c.args.at c.index_mut-chunk.result.now _ _ c.args.item c.reserve.ensures.items
    c.requires.starts c.requires.fills c.requires.part c.index_mut-chunk.ensures.value refl refl c.in-Ok.ensures.half c.in-Ok.ensures.rest c.in-Ok.ensures.ok c.in-Ok-insert.ensures.items c.raise_all.ensures

pub returns-in-Err-clause-err : goal.returns-in-Err-clause-err
returns-in-Err-clause-err g c =
    same_in c.args.full.now.items c.reserve.new.self.items c.args.part c.index_mut-chunk.result.now _ c.reserve.ensures.items c.requires.starts c.requires.fills c.requires.part.0 c.index_mut-chunk.ensures.value refl c.in-Err.ensures.err
