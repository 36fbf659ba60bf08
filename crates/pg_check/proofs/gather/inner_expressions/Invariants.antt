use Rattle.std.proofs.Common.{◌≡◌, drop, map, ◌++◌}
use Rattle.pg_ast.specs.Trees.{tree_of}
use Rattle.pg_check.specs.Passes.{inner_view}
use Rattle.pg_check.proofs.gather.inner_expressions.Given as goal

abbrev pub invariant-loop-inner : goal.invariant-loop-inner
invariant-loop-inner l = map (λ e. tree_of e.now) l.out.items ++ map (λ i. tree_of i.condition.expr) (map inner_view (drop l.inner-index l.conditions)) ≡ map (λ i. tree_of i.condition.expr) (map inner_view l.conditions)
