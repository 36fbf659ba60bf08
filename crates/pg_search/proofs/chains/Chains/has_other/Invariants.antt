use Rattle.std.proofs.Common.{◌≡◌, ◌<◌, length}
use Rattle.std.specs.List.{list_any}
use Rattle.pg_search.specs.Chains.{list_at, is_other}
use Rattle.pg_search.proofs.chains.Chains.has_other.Given as goal

abbrev pub invariant-loop-link : goal.invariant-loop-link
invariant-loop-link l = record { within : l.at < length l.self; same : list_any (is_other l.first l.second) (list_at l.self l.number) ≡ list_any (is_other l.first l.second) (list_at l.self l.at) }

abbrev pub decreases-loop-link : goal.decreases-loop-link
decreases-loop-link l = l.at
