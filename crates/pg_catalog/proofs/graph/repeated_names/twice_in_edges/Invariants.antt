use Rattle.std.proofs.Common.{◌≡◌, drop}
use Rattle.std.specs.List.{flat_map}
use Rattle.pg_rules.specs.Places.{least, sooner}
use Rattle.pg_rules.specs.Definitions.Graphs.{twice_labelled}
use Rattle.pg_catalog.proofs.graph.repeated_names.twice_in_edges.Given as goal

abbrev pub invariant-loop-edge : goal.invariant-loop-edge
invariant-loop-edge l = sooner l.found (least (flat_map (λ e. twice_labelled e.labels) (drop l.edge-index l.edges))) ≡ least (flat_map (λ e. twice_labelled e.labels) l.edges)
