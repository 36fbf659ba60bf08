use Rattle.std.proofs.Common.{◌-◌}
use Rattle.pg_script.proofs.Passes.Turns.{Completes}
use Rattle.pg_script.proofs.turns.turns.Given as goal

abbrev pub invariant-words : goal.invariant-words
invariant-words l = Completes l.bytes l.from l.to l.out l.at

abbrev pub decreases-words : goal.decreases-words
decreases-words l = l.to - l.at
