use Rattle.std.proofs.Common.{ap, sym, subst, ◌-◌, ◌∙◌, drop, length, arith}
use Rattle.pg_chunks.specs.Parts.{IsRun}
use Rattle.pg_shared.specs.Parts.{joined, Starts}
use Rattle.pg_shared.proofs.Walks.{within_part, run_is}
use Rattle.pg_shared.proofs.chunks.SharedChunks.run.Goals as goal

pub overflow_sub-at : goal.overflow_sub-at
overflow_sub-at g c =
    let starts = subst (Starts 0) (sym c.as_slice-parts.ensures) c.self.invariant.0.starts in
    let w = within_part c.as_slice-parts.result.now c.part_at.result c.args.at c.index-parts-part_at.result c.part_at.ensures c.index-parts-part_at.is starts in
    w.0

pub split_at-requires : goal.split_at-requires
split_at-requires g c =
    let starts = subst (Starts 0) (sym c.as_slice-parts.ensures) c.self.invariant.0.starts in
    let w = within_part c.as_slice-parts.result.now c.part_at.result c.args.at c.index-parts-part_at.result c.part_at.ensures c.index-parts-part_at.is starts in
    let b = w.1 in
    let l = ap length c.as_slice.ensures in
    omega arith

pub returns : goal.returns
returns g c =
    let starts = subst (Starts 0) (sym c.as_slice-parts.ensures) c.self.invariant.0.starts in
    let w = within_part c.as_slice-parts.result.now c.part_at.result c.args.at c.index-parts-part_at.result c.part_at.ensures c.index-parts-part_at.is starts in
    subst (λ xs. IsRun c.args.at xs c.split_at.result.1.now) (ap joined c.as_slice-parts.ensures ∙ c.self.view_is)
    (subst (IsRun c.args.at (joined c.as_slice-parts.result.now)) (sym (c.split_at.ensures.back ∙ ap (drop (c.args.at - c.index-parts-part_at.result.before)) c.as_slice.ensures))
    (run_is c.as_slice-parts.result.now c.part_at.result c.args.at c.index-parts-part_at.result c.part_at.ensures c.index-parts-part_at.is starts))
