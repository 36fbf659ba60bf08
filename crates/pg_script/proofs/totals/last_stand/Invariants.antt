use Rattle.std.proofs.Common.{◌≡◌, take}
use Rattle.pg_script.specs.Generated.{last_stand}
use Rattle.pg_script.proofs.totals.last_stand.Given as goal

abbrev pub invariant-loop-outcome : goal.invariant-loop-outcome
invariant-loop-outcome l = l.last ≡ last_stand (take l.outcome-index l.outcomes)
