use Rattle.std.proofs.Common.{◌∙◌}
use Rattle.pg_write.proofs.ProposedLaws.{passed}
use Rattle.pg_write.proofs.proposed.expr_for.Goals as goal

pub loop-i-preserved : goal.loop-i-preserved
loop-i-preserved c = c.loop-i.invariant ∙ passed c.args.columns.now c.args.tuple.now c.loop-i.i c.args.column c.loop-i-test.true c.if-named-column.false
