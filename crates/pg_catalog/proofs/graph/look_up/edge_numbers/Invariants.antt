use Rattle.std.proofs.Common.{◌≡◌, ◌+◌, ◌++◌, drop}
use Rattle.pg_rules.specs.Catalog.GraphLookUps.{numbers_from}
use Rattle.pg_catalog.proofs.graph.look_up.edge_numbers.Given as goal

abbrev pub invariant-loop-edge : goal.invariant-loop-edge
invariant-loop-edge l = record {
  number : l.number ≡ l.first + l.edge-index;
  left : l.out ++ numbers_from l.number (drop l.edge-index l.edges) ≡ numbers_from l.first l.edges;
}
