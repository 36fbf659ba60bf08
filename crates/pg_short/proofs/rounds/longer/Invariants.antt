use Rattle.std.proofs.Common.{◌≡◌, take}
use Rattle.pg_short.proofs.rounds.longer.Given as goal

abbrev pub invariant-loop-before : goal.invariant-loop-before
invariant-loop-before l = l.hops ≡ take l.before-index l.front
