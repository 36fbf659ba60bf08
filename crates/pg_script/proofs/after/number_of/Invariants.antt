use Rattle.std.proofs.Common.{◌≡◌, ◌-◌, ◌^◌, take}
use Rattle.std.specs.Prelude.{min}
use Rattle.pg_script.specs.After.{number_from}
use Rattle.pg_script.proofs.after.number_of.Given as goal

abbrev pub invariant-loop-digit : goal.invariant-loop-digit
invariant-loop-digit l = l.number ≡ min (2 ^ 32 - 1) (number_from 0 (take l.digit-index l.digits))
