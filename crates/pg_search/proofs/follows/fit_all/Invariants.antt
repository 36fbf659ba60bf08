use Rattle.std.proofs.Common.{◌≡◌, true, take}
use Rattle.pg_search.specs.Chains.{list_at}
use Rattle.pg_search.specs.Seen.{fit_all}
use Rattle.pg_search.proofs.follows.fit_all.Given as goal

abbrev pub invariant-loop-mention : goal.invariant-loop-mention
invariant-loop-mention l = fit_all (list_at l.numbers.names l.names) (take l.mention-index l.seen) ≡ true
