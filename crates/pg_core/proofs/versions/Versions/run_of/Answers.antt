use Rattle.std.proofs.Common.{subst, sym, arith}
use Rattle.pg_core.specs.Core.{IsTaken}
use Rattle.pg_core.proofs.Good.{commits_within}
use Rattle.pg_core.proofs.versions.Versions.run_of.Goals as goal

pub overflow_add-at : goal.overflow_add-at
overflow_add-at g c =
    let i = c.self.invariant.2 in
    let l = commits_within _ _ c.args.commit.now i.lawful (subst (λ v. IsTaken v.limit v.log c.args.commit.now) (sym c.self.view_is) c.requires.taken) in
    let n = c.len-at.ensures in
    let r = c.self.invariant.1 in
    omega (arith, l, n, r)
