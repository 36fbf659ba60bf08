use Rattle.std.proofs.Common.{◌≡◌, ◌<◌, ◌++◌, length, reverse}
use Rattle.pg_search.specs.Chains.{list_at}
use Rattle.pg_search.proofs.chains.Chains.items.Given as goal

abbrev pub invariant-loop-link : goal.invariant-loop-link
invariant-loop-link l = record { within : l.at < length l.self; same : list_at l.self l.number ≡ list_at l.self l.at ++ reverse l.items.items }

abbrev pub decreases-loop-link : goal.decreases-loop-link
decreases-loop-link l = l.at
