use Rattle.std.proofs.Common.{◌≡◌, map, take}
use Rattle.pg_auto.specs.Stages.{stage_of}
use Rattle.pg_auto.specs.Autos.{stage_view}
use Rattle.pg_auto.proofs.compiling.stages_of.Given as goal

abbrev pub invariant-loop-part : goal.invariant-loop-part
invariant-loop-part l = map stage_view l.stages ≡ map stage_of (take l.part-index l.parts)
