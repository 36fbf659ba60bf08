use Rattle.std.proofs.Common.{◌≡◌, drop}
use Rattle.std.specs.List.{flat_map}
use Rattle.pg_rules.specs.Places.{least, sooner}
use Rattle.pg_rules.specs.Definitions.Graphs.{twice_listed}
use Rattle.pg_catalog.proofs.graph.repeated_names.twice_in_labels.Given as goal

abbrev pub invariant-loop-label : goal.invariant-loop-label
invariant-loop-label l = sooner l.found (least (flat_map (λ d. twice_listed d.props) (drop l.label-index l.labels))) ≡ least (flat_map (λ d. twice_listed d.props) l.labels)
