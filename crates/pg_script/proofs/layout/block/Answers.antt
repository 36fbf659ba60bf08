use Rattle.std.proofs.Common.{◌≤◌, ℕ, List, length, subst, arith}
use Rattle.pg_script.specs.Passes.{IsFree}
use Rattle.pg_script.proofs.Passes.Sections.{block_whole, block_more}
use Rattle.pg_script.proofs.layout.block.Goals as goal

pub returns-then-line-bytes : goal.returns-then-line-bytes
returns-then-line-bytes c = block_whole c.args.bytes.now c.len_before-line.result c.len_before-line.ensures.value c.if-line-bytes.true c.requires

pub returns : goal.returns
returns c =
    let n : ℕ = c.len_before-line.result in
    let m : ℕ = c.next_section.result in
    let back = c.split_at.ensures.back in
    block_more c.args.bytes.now n m c.len_before-line.ensures.value (omega arith) c.requires
    (subst (λ (l : List ℕ). m ≤ length l) back c.next_section.ensures.within)
    (subst (λ (l : List ℕ). IsFree m l) back c.next_section.ensures.free)
