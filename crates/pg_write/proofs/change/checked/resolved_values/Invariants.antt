use Rattle.std.proofs.Common.{◌≡◌}
use Rattle.std.proofs.Common.{take, map}
use Rattle.pg_write.specs.ChangePasses.{resolved_value}
use Rattle.pg_write.proofs.change.checked.resolved_values.Given as goal

abbrev pub invariant-loop-value : goal.invariant-loop-value
invariant-loop-value l = l.out ≡ map resolved_value (take l.value-index l.values)
