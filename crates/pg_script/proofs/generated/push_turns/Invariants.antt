use Rattle.std.proofs.Common.{◌≡◌, ◌++◌}
use Rattle.pg_script.specs.Generated.{each_below, turn_of_a}
use Rattle.pg_script.proofs.generated.push_turns.Given as goal

abbrev pub invariant-loop-turn : goal.invariant-loop-turn
invariant-loop-turn l = l.out ≡ l.fn.out ++ each_below turn_of_a l._turn
