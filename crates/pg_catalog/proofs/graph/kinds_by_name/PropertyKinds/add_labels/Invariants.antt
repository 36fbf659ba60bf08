use Rattle.std.proofs.Common.{◌≡◌, drop}
use Rattle.std.specs.List.{flat_map}
use Rattle.pg_catalog.specs.PropertyKinds.{kinds_after, under_label}
use Rattle.pg_catalog.proofs.graph.kinds_by_name.PropertyKinds.add_labels.Given as goal

abbrev pub invariant-loop-label : goal.invariant-loop-label
invariant-loop-label l = kinds_after l.self (flat_map under_label (drop l.label-index l.labels)) ≡ kinds_after l.fn.self (flat_map under_label l.labels)
