use Rattle.pg_tests.proofs.Literals.{pair_checked}
use Rattle.pg_tests.proofs.expressions.evaluated.Goals as goal

pub truth_row-truth-requires : goal.truth_row-truth-requires
truth_row-truth-requires c = pair_checked _ _ c.args.op c.args.left c.args.right c.in_ok-expr.ensures c.requires.kinds c.requires.short_left c.requires.short_right

pub eval_row-requires : goal.eval_row-requires
eval_row-requires c = pair_checked _ _ c.args.op c.args.left c.args.right c.in_ok-expr.ensures c.requires.kinds c.requires.short_left c.requires.short_right
