use Rattle.std.proofs.Common.{◌≡◌, ℕ, drop}
use Rattle.pg_rules.specs.Catalog.GraphLookUps.{admitted, bit, has_number}
use Rattle.pg_ast.specs.Trees.{label_tree}
use Rattle.pg_catalog.proofs.Bits.{with_rest}
use Rattle.pg_catalog.proofs.graph.look_up.vertex_tables.Given as goal

abbrev pub invariant-loop-vertex : goal.invariant-loop-vertex
invariant-loop-vertex l = (t : ℕ) → with_rest l.set (admitted (drop l.vertex-index l.vertices) (label_tree l.label)) t ≡ bit (has_number t (admitted l.vertices (label_tree l.label)))
