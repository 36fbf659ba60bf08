use Rattle.std.proofs.Common.{◌≡◌, ◌++◌, take}
use Rattle.pg_meaning.specs.Walks.{edges_of}
use Rattle.pg_short.specs.Rounds.{hops_in}
use Rattle.pg_short.proofs.bindings.push_edges.Given as goal

abbrev pub invariant-loop-hop : goal.invariant-loop-hop
invariant-loop-hop l = l.out ≡ l.fn.out ++ edges_of (hops_in (take l.hop-index l.hops))
