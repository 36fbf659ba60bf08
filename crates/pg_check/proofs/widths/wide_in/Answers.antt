use Rattle.std.proofs.Common.{Bor}
use Rattle.pg_ast.specs.declared.expr.Expr.{Expr}
use Rattle.pg_ast.specs.Trees.{tree_of}
use Rattle.pg_check.specs.Scopes.{scope}
use Rattle.pg_rules.specs.ExprFaults.{wide_at}
use Rattle.pg_check.proofs.Loops.{next_place}
use Rattle.pg_check.proofs.widths.wide_in.Goals as goal

pub loop-expr-preserved : goal.loop-expr-preserved
loop-expr-preserved c = next_place (λ (e : Bor Expr). wide_at (scope c.args.kinds.now) (tree_of e.now)) c.loop-expr.found c.width.result.wide c.sooner-found.result c.args.exprs.now c.loop-expr.expr-index c.expr-item.result c.loop-expr-test.true c.expr-item.is c.width.ensures.wide c.sooner-found.ensures c.loop-expr.invariant
