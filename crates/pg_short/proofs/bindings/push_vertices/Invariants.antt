use Rattle.std.proofs.Common.{◌≡◌, ◌++◌, map, take}
use Rattle.pg_short.specs.Rounds.{hops_in}
use Rattle.pg_short.proofs.bindings.push_vertices.Given as goal

abbrev pub invariant-loop-hop : goal.invariant-loop-hop
invariant-loop-hop l = l.out ≡ l.fn.out ++ map (λ hop. hop.to) (hops_in (take l.hop-index l.hops))
