use Rattle.std.proofs.Common.{◌≡◌, drop}
use Rattle.std.specs.List.{flat_map}
use Rattle.pg_rules.specs.Definitions.Graphs.{first_column, rows_of}
use Rattle.pg_catalog.proofs.graph.look_up.in_labels.Given as goal

abbrev pub invariant-loop-label : goal.invariant-loop-label
invariant-loop-label l = first_column (flat_map rows_of l.labels) l.name ≡ first_column (flat_map rows_of (drop l.label-index l.labels)) l.name
