use Rattle.std.proofs.Common.{arith, ap, sym, ◌∙◌}
use Rattle.std.proofs.lemmas.List.{drop_all}
use Rattle.pg_rules.specs.Changes.ChangeEffect.{with_writes}
use Rattle.pg_write.proofs.JudgedLaws.{put_in_turn}
use Rattle.pg_write.proofs.apply.put_all.Goals as goal

pub returns-clause-list : goal.returns-clause-list
returns-clause-list c =
    ap (with_writes c.loop-at.out.list) (sym (drop_all c.loop-at.at c.args.made.now.list (omega (arith, c.loop-at-test.false, c.len-at-end.ensures.length))))
    ∙ c.loop-at.invariant.list
    ∙ put_in_turn c.args.writes.list c.args.made.now.list c.requires.in_order c.len-at-end.ensures.in_order
