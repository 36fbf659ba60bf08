use Rattle.std.proofs.Common.{◌==◌, sym, eq-eqb}
use Rattle.std.proofs.lemmas.Bool.{ne_eqb}
use Rattle.pg_meaning.specs.Fits.{Mention}
use Rattle.pg_expr.specs.Mentions.{mention_view}
use Rattle.pg_short.proofs.Along.{some_found, none_more}
use Rattle.pg_short.proofs.bindings.has_variable.Goals as goal

pub returns-then-mention-var : goal.returns-then-mention-var
returns-then-mention-var c = sym (some_found (λ (m : Mention). m.var == c.args.var) mention_view c.args.seen.now c.loop-mention.mention-index c.mention-item.result c.loop-mention-test.true c.mention-item.is (eq-eqb c.mention-item.result.var c.args.var c.if-mention-var.true))

pub loop-mention-preserved : goal.loop-mention-preserved
loop-mention-preserved c = none_more (λ (m : Mention). m.var == c.args.var) mention_view c.args.seen.now c.loop-mention.mention-index c.mention-item.result c.loop-mention-test.true c.mention-item.is c.loop-mention.invariant (ne_eqb c.mention-item.result.var c.args.var c.if-mention-var.false)
