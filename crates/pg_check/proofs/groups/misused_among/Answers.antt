use Rattle.std.proofs.Common.{Bor, false}
use Rattle.pg_ast.specs.declared.expr.Expr.{Expr}
use Rattle.pg_ast.specs.Trees.{tree_of}
use Rattle.pg_check.specs.UsePlaces.{misused_from}
use Rattle.pg_check.proofs.Loops.{next_place}
use Rattle.pg_check.proofs.groups.misused_among.Goals as goal

pub loop-expr-preserved : goal.loop-expr-preserved
loop-expr-preserved c = next_place (λ (e : Bor Expr). misused_from c.args.variables.now false (tree_of e.now)) c.loop-expr.found c.in_ok-place.place c.sooner-found.result c.args.exprs.now c.loop-expr.expr-index c.expr-item.result c.loop-expr-test.true c.expr-item.is c.in_ok-place.ensures c.sooner-found.ensures c.loop-expr.invariant
