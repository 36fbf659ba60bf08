use Rattle.std.proofs.Common.{◌≡◌, drop}
use Rattle.std.specs.List.{flat_map}
use Rattle.pg_catalog.specs.PropertyNames.{under_label}
use Rattle.pg_catalog.specs.NameSets.{add_all}
use Rattle.pg_catalog.proofs.name_set.NameSet.add_labels.Given as goal

abbrev pub invariant-loop-label : goal.invariant-loop-label
invariant-loop-label l = add_all l.self (flat_map under_label (drop l.label-index l.labels)) ≡ add_all l.fn.self (flat_map under_label l.labels)
