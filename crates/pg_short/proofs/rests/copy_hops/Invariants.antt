use Rattle.std.proofs.Common.{◌≡◌, take}
use Rattle.pg_short.proofs.rests.copy_hops.Given as goal

abbrev pub invariant-loop-hop : goal.invariant-loop-hop
invariant-loop-hop l = l.copy.items ≡ take l.hop-index l.hops
