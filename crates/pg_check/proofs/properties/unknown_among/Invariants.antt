use Rattle.std.proofs.Common.{◌≡◌, drop}
use Rattle.std.specs.List.{flat_map}
use Rattle.pg_rules.specs.Places.{least, sooner}
use Rattle.std.specs.Prelude.{false}
use Rattle.pg_check.specs.UsePlaces.{unknown}
use Rattle.pg_check.specs.Gathered.{seen_in}
use Rattle.pg_ast.specs.Trees.{tree_of}
use Rattle.pg_check.proofs.properties.unknown_among.Given as goal

abbrev pub invariant-loop-expr : goal.invariant-loop-expr
invariant-loop-expr l = sooner l.found (least (flat_map (λ e. flat_map (unknown l.variables) (seen_in false (tree_of e.now))) (drop l.expr-index l.exprs))) ≡ least (flat_map (λ e. flat_map (unknown l.variables) (seen_in false (tree_of e.now))) l.exprs)
