use Rattle.std.proofs.Common.{◌≡◌, drop, map, ◌++◌}
use Rattle.pg_ast.specs.Trees.{tree_of}
use Rattle.pg_check.proofs.gather.push_columns.Given as goal

abbrev pub invariant-loop-column : goal.invariant-loop-column
invariant-loop-column l = map (λ e. tree_of e.now) l.out.items ++ map (λ c. tree_of c.expr.expr) (drop l.column-index l.columns) ≡ map (λ e. tree_of e.now) l.fn.out.items ++ map (λ c. tree_of c.expr.expr) l.columns
