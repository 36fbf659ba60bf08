use Rattle.std.proofs.Common.{◌≡◌, map, take}
use Rattle.pg_auto.specs.Stages.{variable}
use Rattle.pg_auto.specs.Autos.{stage_view, variable_view}
use Rattle.pg_auto.proofs.compiling.variables.Given as goal

abbrev pub invariant-loop-number : goal.invariant-loop-number
invariant-loop-number l = map variable_view l.vars ≡ map (variable (map stage_view l.stages)) (take l.number-index l.numbers)
