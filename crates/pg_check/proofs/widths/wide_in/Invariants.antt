use Rattle.std.proofs.Common.{◌≡◌, drop}
use Rattle.std.specs.List.{flat_map}
use Rattle.pg_rules.specs.Places.{least, sooner}
use Rattle.pg_ast.specs.Trees.{tree_of}
use Rattle.pg_rules.specs.ExprFaults.{wide_at}
use Rattle.pg_check.specs.Scopes.{scope}
use Rattle.pg_check.proofs.widths.wide_in.Given as goal

abbrev pub invariant-loop-expr : goal.invariant-loop-expr
invariant-loop-expr l = sooner l.found (least (flat_map (λ e. wide_at (scope l.kinds) (tree_of e.now)) (drop l.expr-index l.exprs))) ≡ least (flat_map (λ e. wide_at (scope l.kinds) (tree_of e.now)) l.exprs)
