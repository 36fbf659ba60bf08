use Rattle.std.proofs.Common.{◌≡◌, ◌++◌, take, map}
use Rattle.pg_rules.specs.Definitions.Entries.{placed_edge}
use Rattle.pg_catalog.proofs.graph.entry.push_edges.Given as goal

abbrev pub invariant-loop-edge : goal.invariant-loop-edge
invariant-loop-edge l = l.out ≡ l.fn.out ++ map (placed_edge l.tables.entries) (take l.edge-index l.edges)
