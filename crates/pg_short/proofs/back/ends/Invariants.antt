use Rattle.std.proofs.Common.{map}
use Rattle.pg_auto.specs.Autos.{stage_view}
use Rattle.pg_short.specs.Found.{steps_in}
use Rattle.pg_short.specs.Rests.{AreEnds}
use Rattle.pg_short.proofs.back.ends.Given as goal

abbrev pub invariant-loop-place : goal.invariant-loop-place
invariant-loop-place l = AreEnds (map stage_view l.stages) (steps_in l.search) l.search.order.items l.states l.place
