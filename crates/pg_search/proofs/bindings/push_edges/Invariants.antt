use Rattle.std.proofs.Common.{◌≡◌, ◌++◌, map, take}
use Rattle.pg_search.specs.Found.{edge_of}
use Rattle.pg_search.proofs.bindings.push_edges.Given as goal

abbrev pub invariant-loop-hop : goal.invariant-loop-hop
invariant-loop-hop l = l.out ≡ l.fn.out ++ map (edge_of l.numbers) (take l.hop-index l.hops)
