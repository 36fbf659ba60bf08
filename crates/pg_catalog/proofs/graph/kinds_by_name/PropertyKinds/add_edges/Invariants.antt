use Rattle.std.proofs.Common.{◌≡◌, drop}
use Rattle.std.specs.List.{flat_map}
use Rattle.pg_catalog.specs.PropertyKinds.{kinds_after, of_edge}
use Rattle.pg_catalog.proofs.graph.kinds_by_name.PropertyKinds.add_edges.Given as goal

abbrev pub invariant-loop-edge : goal.invariant-loop-edge
invariant-loop-edge l = kinds_after l.self (flat_map of_edge (drop l.edge-index l.edges)) ≡ kinds_after l.fn.self (flat_map of_edge l.edges)
