use Rattle.std.proofs.Common.{◌≡◌, drop}
use Rattle.std.specs.List.{find}
use Rattle.pg_rules.specs.Catalog.GraphLookUps.{is_table}
use Rattle.pg_catalog.proofs.graph.look_up.vertex_in.Given as goal

abbrev pub invariant-loop-vertex : goal.invariant-loop-vertex
invariant-loop-vertex l = find (is_table l.table) l.vertices ≡ find (is_table l.table) (drop l.vertex-index l.vertices)
