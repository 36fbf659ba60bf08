use Rattle.std.proofs.Common.{◌≡◌, drop}
use Rattle.std.specs.List.{flat_map}
use Rattle.pg_rules.specs.Places.{least, sooner}
use Rattle.pg_rules.specs.Definitions.Graphs.{ninth_label}
use Rattle.pg_catalog.proofs.graph.limits.labels_of_edges.Given as goal

abbrev pub invariant-loop-edge : goal.invariant-loop-edge
invariant-loop-edge l = sooner l.found (least (flat_map (λ e. ninth_label e.labels) (drop l.edge-index l.edges))) ≡ least (flat_map (λ e. ninth_label e.labels) l.edges)
