use Rattle.std.proofs.Common.{◌≡◌, drop}
use Rattle.std.specs.List.{flat_map}
use Rattle.pg_rules.specs.Places.{least, sooner}
use Rattle.pg_rules.specs.Definitions.Graphs.{ninth_label}
use Rattle.pg_catalog.proofs.graph.limits.labels_of_vertices.Given as goal

abbrev pub invariant-loop-vertex : goal.invariant-loop-vertex
invariant-loop-vertex l = sooner l.found (least (flat_map (λ v. ninth_label v.labels) (drop l.vertex-index l.vertices))) ≡ least (flat_map (λ v. ninth_label v.labels) l.vertices)
