use Rattle.std.proofs.Common.{◌≡◌, take, map}
use Rattle.pg_rules.specs.Definitions.Entries.{edge_of}
use Rattle.pg_catalog.proofs.graph.entry.edges_of.Given as goal

abbrev pub invariant-loop-edge : goal.invariant-loop-edge
invariant-loop-edge l = l.out ≡ map (edge_of l.tables.entries) (take l.edge-index l.edges)
