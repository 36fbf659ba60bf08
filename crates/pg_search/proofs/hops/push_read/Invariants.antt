use Rattle.std.proofs.Common.{◌≡◌, ◌≤◌, ◌+◌, ◌++◌, take}
use Rattle.std.specs.Prelude.{flat_map}
use Rattle.pg_search.specs.Hops.{neighbours_over, read_cost}
use Rattle.pg_search.proofs.hops.push_read.Given as goal

abbrev pub invariant-loop-edge : goal.invariant-loop-edge
invariant-loop-edge g l = record {
  read : l.out ≡ l.fn.out ++ flat_map (neighbours_over (g.V.View.shapes l.view) (g.V.View.tables l.view) l.arrow l.set l.vertex) (take l.edge-index l.edges);
  counts : l.fn.steps ≤ l.steps;
  cost : l.steps ≤ l.fn.steps + read_cost (g.V.View.hop_cost l.view) (g.V.View.shapes l.view) l.arrow l.set l.vertex.key (take l.edge-index l.edges);
}
