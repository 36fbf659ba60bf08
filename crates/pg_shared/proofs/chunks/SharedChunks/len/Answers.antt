use Rattle.std.proofs.Common.{ap, sym, subst, length, arith}
use Rattle.pg_shared.specs.Parts.{joined, IsKept}
use Rattle.pg_shared.proofs.Totals.{last_end}
use Rattle.pg_shared.proofs.chunks.SharedChunks.len.Goals as goal

pub overflow_add-result : goal.overflow_add-result
overflow_add-result g c =
    let kept = subst IsKept (sym c.as_slice-parts.ensures) c.self.invariant.0 in
    let z = c.if-count-eq0.false in
    let e = last_end c.as_slice-parts.result.now _ c.index-parts-count.result kept (omega arith) c.index-parts-count.is in
    let j = ap (λ ps. length (joined ps)) c.as_slice-parts.ensures in
    let v = ap length c.self.view_is in
    let n = c.len.ensures in
    let b = kept.bound in
    omega arith

pub returns-clause-length : goal.returns-clause-length
returns-clause-length g c =
    let kept = subst IsKept (sym c.as_slice-parts.ensures) c.self.invariant.0 in
    let z = c.if-count-eq0.false in
    let e = last_end c.as_slice-parts.result.now _ c.index-parts-count.result kept (omega arith) c.index-parts-count.is in
    let j = ap (λ ps. length (joined ps)) c.as_slice-parts.ensures in
    let v = ap length c.self.view_is in
    let n = c.len.ensures in
    let b = kept.bound in
    omega arith
