use Rattle.std.proofs.Common.{sym, ◌∙◌}
use Rattle.std.proofs.lemmas.Bool.{eq-eqb, ne_eqb}
use Rattle.pg_expr.proofs.Ones.{found_here, found_beyond}
use Rattle.pg_expr.proofs.mentions.first_of.Goals as goal

pub returns-then-mention-var : goal.returns-then-mention-var
returns-then-mention-var c = sym (c.loop-mention.invariant ∙ found_here c.args.mentions.now c.loop-mention.mention-index c.mention-item.result c.args.var c.loop-mention-test.true c.mention-item.is (eq-eqb c.mention-item.result.var c.args.var c.if-mention-var.true))

pub loop-mention-preserved : goal.loop-mention-preserved
loop-mention-preserved c = c.loop-mention.invariant ∙ found_beyond c.args.mentions.now c.loop-mention.mention-index c.mention-item.result c.args.var c.loop-mention-test.true c.mention-item.is (ne_eqb c.mention-item.result.var c.args.var c.if-mention-var.false)
