use Rattle.std.proofs.Common.{◌+◌, ◌^◌, sym, ap, ◌∙◌, subst, arith}
use Rattle.pg_chunks.specs.Parts.{StartsWithin}
use Rattle.pg_chunks.proofs.Raises.{raise_step, raise_end, set_length, raised_within, raised_at}
use Rattle.pg_chunks.proofs.part.raise.Goals as goal

pub overflow_add-chunks : goal.overflow_add-chunks
overflow_add-chunks g c =
    let i = c.loop-at.invariant in
    let n = i.same in
    let t = c.loop-at-test.true in
    let w = subst (λ cs. StartsWithin (2 ^ 62 + 1) cs) (sym i.left) (raised_within (2 ^ 62) c.args.from c.args.chunks.now c.requires.bound) in
    let l = raised_at (2 ^ 62 + 1) c.loop-at.chunks c.loop-at.at c.index-chunks-at.result w (omega arith) c.index-chunks-at.is in
    let z = ap (λ p. p.start) c.index-chunks-at.is in
    omega arith

pub loop-at-preserved : goal.loop-at-preserved
loop-at-preserved g c =
    let i = c.loop-at.invariant in
    let n = i.same in
    let t = c.loop-at-test.true in
    record {
      left = raise_step c.loop-at.chunks c.loop-at.at _ _ (omega arith) ∙ i.left;
      same = set_length c.loop-at.chunks c.loop-at.at _ ∙ i.same;
    }

pub returns : goal.returns
returns g c =
    let i = c.loop-at.invariant in
    let n = i.same in
    let t = c.loop-at-test.false in
    sym (raise_end c.loop-at.chunks c.loop-at.at (omega arith)) ∙ i.left
