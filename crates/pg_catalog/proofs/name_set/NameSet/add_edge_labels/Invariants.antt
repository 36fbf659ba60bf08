use Rattle.std.proofs.Common.{◌≡◌, drop}
use Rattle.std.specs.List.{flat_map}
use Rattle.pg_catalog.specs.PropertyKinds.{edge_labels}
use Rattle.pg_catalog.specs.NameSets.{add_all}
use Rattle.pg_catalog.proofs.name_set.NameSet.add_edge_labels.Given as goal

abbrev pub invariant-loop-edge : goal.invariant-loop-edge
invariant-loop-edge l = add_all l.self (flat_map edge_labels (drop l.edge-index l.edges)) ≡ add_all l.fn.self (flat_map edge_labels l.edges)
