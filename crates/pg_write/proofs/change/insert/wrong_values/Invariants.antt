use Rattle.std.proofs.Common.{◌≡◌, drop}
use Rattle.pg_rules.specs.Places.{least, sooner}
use Rattle.pg_write.specs.ChangePasses.{wrong_from}
use Rattle.pg_write.proofs.change.insert.wrong_values.Given as goal

abbrev pub invariant-loop-i : goal.invariant-loop-i
invariant-loop-i l = sooner l.found (least (wrong_from l.columns l.targets l.i (drop l.i l.values))) ≡ least (wrong_from l.columns l.targets 0 l.values)
