use Rattle.std.proofs.Common.{◌≡◌, drop}
use Rattle.std.specs.List.{flat_map}
use Rattle.pg_catalog.specs.PropertyKinds.{kinds_after, of_element}
use Rattle.pg_catalog.proofs.graph.kinds_by_name.PropertyKinds.add_vertices.Given as goal

abbrev pub invariant-loop-vertex : goal.invariant-loop-vertex
invariant-loop-vertex l = kinds_after l.self (flat_map of_element (drop l.vertex-index l.vertices)) ≡ kinds_after l.fn.self (flat_map of_element l.vertices)
