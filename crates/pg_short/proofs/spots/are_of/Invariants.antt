use Rattle.std.proofs.Common.{◌≡◌, map, drop}
use Rattle.std.specs.List.{list_any}
use Rattle.pg_auto.specs.Stages.{is_of_leg}
use Rattle.pg_auto.specs.Autos.{leg_view}
use Rattle.pg_short.proofs.spots.are_of.Given as goal

abbrev pub invariant-loop-leg : goal.invariant-loop-leg
invariant-loop-leg l = list_any (is_of_leg l.var) (map leg_view l.legs) ≡ list_any (is_of_leg l.var) (map leg_view (drop l.leg-index l.legs))
