use Rattle.std.proofs.Common.{◌≡◌, ℕ, drop, map}
use Rattle.pg_rules.specs.Catalog.GraphLookUps.{admitted, bit, has_number}
use Rattle.pg_ast.specs.Trees.{label_tree}
use Rattle.pg_catalog.proofs.Bits.{with_rest}
use Rattle.pg_catalog.proofs.graph.look_up.edge_tables.Given as goal

abbrev pub invariant-loop-edge : goal.invariant-loop-edge
invariant-loop-edge l = (t : ℕ) → with_rest l.set (admitted (map (λ e. e.element) (drop l.edge-index l.edges)) (label_tree l.label)) t ≡ bit (has_number t (admitted (map (λ e. e.element) l.edges) (label_tree l.label)))
