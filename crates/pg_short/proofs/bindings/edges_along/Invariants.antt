use Rattle.std.proofs.Common.{◌≡◌, take}
use Rattle.pg_meaning.specs.Walks.{edges_of}
use Rattle.pg_short.specs.Walks.{hops_along, rounds_in}
use Rattle.pg_short.proofs.bindings.edges_along.Given as goal

abbrev pub invariant-loop-round : goal.invariant-loop-round
invariant-loop-round l = l.edges ≡ edges_of (hops_along (rounds_in (take l.round-index l.rounds)))
