use Rattle.std.proofs.Common.{◌≡◌, take}
use Rattle.pg_meaning.specs.Walks.{vertices_of}
use Rattle.pg_short.specs.Walks.{hops_along, rounds_in}
use Rattle.pg_short.proofs.bindings.vertices_along.Given as goal

abbrev pub invariant-loop-round : goal.invariant-loop-round
invariant-loop-round l = l.vertices ≡ vertices_of l.start (hops_along (rounds_in (take l.round-index l.rounds)))
