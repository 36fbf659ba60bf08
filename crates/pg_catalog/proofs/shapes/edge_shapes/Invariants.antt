use Rattle.std.proofs.Common.{◌≡◌, ◌++◌}
use Rattle.pg_rules.specs.Catalog.Shapes as spec
use Rattle.pg_catalog.proofs.shapes.edge_shapes.Given as goal

abbrev pub invariant-loop-graph : goal.invariant-loop-graph
invariant-loop-graph l = l.out ++ spec.edge_shapes l.graph-iterator ≡ spec.edge_shapes l.graphs.entries
