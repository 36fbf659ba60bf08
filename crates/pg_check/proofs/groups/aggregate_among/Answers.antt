use Rattle.std.proofs.Common.{Bor}
use Rattle.pg_ast.specs.declared.expr.Expr.{Expr}
use Rattle.pg_ast.specs.Trees.{tree_of}
use Rattle.pg_check.specs.UsePlaces.{aggregate_places}
use Rattle.pg_check.proofs.Loops.{next_place}
use Rattle.pg_check.proofs.groups.aggregate_among.Goals as goal

pub loop-expr-preserved : goal.loop-expr-preserved
loop-expr-preserved c = next_place (λ (e : Bor Expr). aggregate_places (tree_of e.now)) c.loop-expr.found c.aggregate_in.result c.sooner-found.result c.args.exprs.now c.loop-expr.expr-index c.expr-item.result c.loop-expr-test.true c.expr-item.is c.aggregate_in.ensures c.sooner-found.ensures c.loop-expr.invariant
