use Rattle.std.proofs.Common.{rules}
use Rattle.pg_tests.proofs.Literals.{aggregate_checked}
use Rattle.pg_tests.proofs.expressions.over_nothing.Goals as goal

pub truth-truth-requires : goal.truth-truth-requires
truth-truth-requires c = (search rules, aggregate_checked _ _ c.args.agg c.in_ok-expr.ensures c.in_ok-bound.ensures)

pub eval-requires : goal.eval-requires
eval-requires c = (search rules, aggregate_checked _ _ c.args.agg c.in_ok-expr.ensures c.in_ok-bound.ensures)
