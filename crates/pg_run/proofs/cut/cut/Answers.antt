use Rattle.std.proofs.Common.{arith, ℕ, ◌≡◌, ◌≤◌, length, subst, ap, ◌∙◌}
use Rattle.pg_run.specs.Cuts.{AreWithin}
use Rattle.pg_run.proofs.CutLaws.{cut_more, cut_all, leading_within}
use Rattle.pg_run.proofs.cut.cut.Goals as goal

ends : (n t : ℕ) → n ≤ t → t ≤ n → n ≡ t
ends n t a b = omega arith

pub overflow_add-at : goal.overflow_add-at
overflow_add-at c =
    let w = leading_within c.tables.table c.tables.at c.args.writes.now.list c.tables.invariant.within in
    let e = c.len.ensures ∙ ap length c.in-Ok.ensures in
    let l = c.len-end.ensures.length in
    omega (arith, w, e, l)

pub tables-preserved : goal.tables-preserved
tables-preserved c = cut_more c.args.writes.now.list c.tables.table c.tables.at c.tables.lists.items c.push.new.self.items c.in-Ok.list c.len.result c.len-end.ensures.in_order c.tables.invariant c.in-Ok.ensures c.len.ensures c.in_ok-push-in-Ok.ensures.items

pub returns-clause-whole : goal.returns-clause-whole
returns-clause-whole c = cut_all c.args.writes.now.list c.tables.table c.tables.at c.tables.lists.items c.tables.invariant (subst (λ n. AreWithin n c.args.writes.now.list) (ends c.args.tables c.tables.table c.tables-test.false c.tables.auto.table-end) c.requires)
