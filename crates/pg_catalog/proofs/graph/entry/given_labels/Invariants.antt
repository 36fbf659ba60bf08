use Rattle.std.proofs.Common.{◌≡◌, take, map}
use Rattle.pg_rules.specs.Definitions.Entries.{label_of}
use Rattle.pg_catalog.proofs.graph.entry.given_labels.Given as goal

abbrev pub invariant-loop-label : goal.invariant-loop-label
invariant-loop-label l = l.out ≡ map (label_of l.columns) (take l.label-index l.labels)
