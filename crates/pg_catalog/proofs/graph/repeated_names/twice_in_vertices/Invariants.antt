use Rattle.std.proofs.Common.{◌≡◌, drop}
use Rattle.std.specs.List.{flat_map}
use Rattle.pg_rules.specs.Places.{least, sooner}
use Rattle.pg_rules.specs.Definitions.Graphs.{twice_labelled}
use Rattle.pg_catalog.proofs.graph.repeated_names.twice_in_vertices.Given as goal

abbrev pub invariant-loop-vertex : goal.invariant-loop-vertex
invariant-loop-vertex l = sooner l.found (least (flat_map (λ v. twice_labelled v.labels) (drop l.vertex-index l.vertices))) ≡ least (flat_map (λ v. twice_labelled v.labels) l.vertices)
