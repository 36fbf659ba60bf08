use Rattle.std.proofs.Common.{◌-◌, ◌++◌, length, drop, sym, ap, subst, ◌∙◌, arith}
use Rattle.pg_chunks.specs.Parts.{joined, IsRun}
use Rattle.pg_chunks.proofs.Places.{length_append}
use Rattle.pg_chunks.proofs.Walks.{run_behind}
use Rattle.pg_chunks.proofs.parts.Parts.run.Goals as goal

pub returns-else-at-self : goal.returns-else-at-self
returns-else-at-self g c =
    let n = length_append (joined c.self.inside.full.items) c.self.inside.last.items in
    let v = ap length c.self.view_is in
    let r = c.requires in
    let k = c.self.invariant.counts in
    let h = c.if-at-self.false in
    subst (λ xs. IsRun c.args.at xs c.items_from.result.now) c.self.view_is
    (subst (λ xs. IsRun c.args.at (joined c.self.inside.full.items ++ c.self.inside.last.items) xs) (sym (c.items_from.ensures ∙ ap (λ xs. drop (c.args.at - c.self.inside.before) xs) c.as_slice-else-at-self.ensures.value))
    (run_behind (joined c.self.inside.full.items) c.self.inside.last.items c.self.inside.before c.args.at k h (omega arith)))
