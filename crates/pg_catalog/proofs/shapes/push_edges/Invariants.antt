use Rattle.std.proofs.Common.{◌≡◌, ◌++◌, take, map}
use Rattle.pg_rules.specs.Catalog.Shapes.{edge_shape}
use Rattle.pg_catalog.proofs.shapes.push_edges.Given as goal

abbrev pub invariant-loop-edge : goal.invariant-loop-edge
invariant-loop-edge l = l.out ≡ l.fn.out ++ map edge_shape (take l.edge-index l.edges)
