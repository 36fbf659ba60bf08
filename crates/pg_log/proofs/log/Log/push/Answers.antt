use Rattle.std.proofs.Common.{arith, ◌≤◌, ◌+◌, length, subst, sym, ap, ◌∙◌}
use Rattle.pg_value.specs.Log.{held}
use Rattle.pg_log.proofs.Finds.{held_more}
use Rattle.pg_log.proofs.log.Log.push.Goals as goal

pub invariant_of-self : goal.invariant_of-self
invariant_of-self c =
    let w = subst (λ l. held l.list + length c.args.commit.writes.list ≤ l.limit) (sym c.self.view_is) c.requires.within in
    let h = ap held c.push_reserved.ensures.items ∙ held_more c.self.inside.commits.items c.args.commit in
    let i = c.self.invariant.0 in
    let n = c.len.ensures.length in
    (omega (arith, h, i, n), omega (arith, w, i, n))
