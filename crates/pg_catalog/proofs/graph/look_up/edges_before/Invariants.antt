use Rattle.std.proofs.Common.{◌≡◌, ◌≤◌, ◌+◌, ◌*◌, length, All}
use Rattle.pg_catalog.specs.GraphLookUps.{edges_before}
use Rattle.pg_rules.specs.Catalog.{IsSmallGraph}
use Rattle.pg_catalog.proofs.graph.look_up.edges_before.Given as goal

abbrev pub invariant-loop-entry : goal.invariant-loop-entry
invariant-loop-entry l = record {
  count : l.count + edges_before l.left l.entry-iterator ≡ edges_before l.graph l.graphs.entries;
  few : l.count + 32 * length l.entry-iterator ≤ 512;
  small : All (λ g. IsSmallGraph g.1) l.entry-iterator;
}
