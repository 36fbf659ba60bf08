use Rattle.std.proofs.Common.{◌≡◌, drop, map}
use Rattle.std.specs.List.{find}
use Rattle.pg_rules.specs.Catalog.GraphLookUps.{is_table}
use Rattle.pg_catalog.proofs.graph.look_up.edge_in.Given as goal

abbrev pub invariant-loop-edge : goal.invariant-loop-edge
invariant-loop-edge l = find (is_table l.table) (map (λ e. e.element) l.edges) ≡ find (is_table l.table) (map (λ e. e.element) (drop l.edge-index l.edges))
