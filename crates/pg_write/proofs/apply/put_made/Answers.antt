use Rattle.std.proofs.Common.{sym, ◌∙◌}
use Rattle.pg_write.proofs.JudgedLaws.{put_on_none}
use Rattle.pg_write.proofs.apply.put_made.Goals as goal

pub returns-then-len-gt0-clause-list : goal.returns-then-len-gt0-clause-list
returns-then-len-gt0-clause-list c = sym (put_on_none c.args.writes.list c.args.made.list (sym c.len.ensures.length ∙ c.if-len-eq0.true) c.len-then-len-eq0.ensures.in_order)
