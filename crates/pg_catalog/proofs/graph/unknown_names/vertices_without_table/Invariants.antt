use Rattle.std.proofs.Common.{◌≡◌, drop}
use Rattle.std.specs.List.{flat_map}
use Rattle.pg_rules.specs.Places.{least, sooner}
use Rattle.pg_rules.specs.Definitions.Graphs.{no_such}
use Rattle.pg_catalog.proofs.graph.unknown_names.vertices_without_table.Given as goal

abbrev pub invariant-loop-vertex : goal.invariant-loop-vertex
invariant-loop-vertex l = sooner l.found (least (flat_map (λ v. no_such l.tables.entries v.table) (drop l.vertex-index l.vertices))) ≡ least (flat_map (λ v. no_such l.tables.entries v.table) l.vertices)
