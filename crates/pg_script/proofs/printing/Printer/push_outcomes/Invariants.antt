use Rattle.std.proofs.Common.{◌≡◌, ◌+◌, ◌++◌, drop}
use Rattle.pg_script.specs.Text.{outcomes_text}
use Rattle.pg_script.proofs.printing.Printer.push_outcomes.Given as goal

abbrev pub invariant-loop-i : goal.invariant-loop-i
invariant-loop-i l = l.self ++ outcomes_text (l.i + 1) (drop l.i l.outcomes) ≡ l.fn.self ++ outcomes_text 1 l.outcomes
