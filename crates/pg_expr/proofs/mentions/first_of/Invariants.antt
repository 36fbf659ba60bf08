use Rattle.std.proofs.Common.{◌≡◌, drop}
use Rattle.pg_expr.specs.Mentions.{stood_for}
use Rattle.pg_expr.proofs.mentions.first_of.Given as goal

abbrev pub invariant-loop-mention : goal.invariant-loop-mention
invariant-loop-mention l = stood_for l.mentions l.var ≡ stood_for (drop l.mention-index l.mentions) l.var
