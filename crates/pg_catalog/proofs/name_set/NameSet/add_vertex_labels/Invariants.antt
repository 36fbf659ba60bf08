use Rattle.std.proofs.Common.{◌≡◌, drop}
use Rattle.std.specs.List.{flat_map}
use Rattle.pg_rules.specs.Definitions.Graphs.{labels_in}
use Rattle.pg_catalog.specs.NameSets.{add_all}
use Rattle.pg_catalog.proofs.name_set.NameSet.add_vertex_labels.Given as goal

abbrev pub invariant-loop-vertex : goal.invariant-loop-vertex
invariant-loop-vertex l = add_all l.self (flat_map labels_in (drop l.vertex-index l.vertices)) ≡ add_all l.fn.self (flat_map labels_in l.vertices)
