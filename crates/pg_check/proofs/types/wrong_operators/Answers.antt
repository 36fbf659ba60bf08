use Rattle.std.proofs.Common.{Bor}
use Rattle.pg_ast.specs.declared.expr.Expr.{Expr}
use Rattle.pg_ast.specs.Trees.{tree_of}
use Rattle.pg_check.specs.Scopes.{scope}
use Rattle.pg_rules.specs.ExprFaults.{types_at}
use Rattle.pg_check.proofs.Loops.{next_place}
use Rattle.pg_check.proofs.types.wrong_operators.Goals as goal

pub loop-expr-preserved : goal.loop-expr-preserved
loop-expr-preserved c = next_place (λ (e : Bor Expr). types_at (scope c.args.kinds.now) (tree_of e.now)) c.loop-expr.found c.wrong_in.result c.sooner-found.result c.args.exprs.now c.loop-expr.expr-index c.expr-item.result c.loop-expr-test.true c.expr-item.is c.wrong_in.ensures c.sooner-found.ensures c.loop-expr.invariant
