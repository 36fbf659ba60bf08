use Rattle.std.proofs.Common.{◌≡◌, map, take}
use Rattle.pg_expr.specs.Mentions.{mention_view}
use Rattle.pg_short.specs.Walks.{singles_along, rounds_in}
use Rattle.pg_short.proofs.bindings.singles_along.Given as goal

abbrev pub invariant-loop-round : goal.invariant-loop-round
invariant-loop-round l = map mention_view l.seen.items ≡ singles_along (rounds_in (take l.round-index l.rounds))
