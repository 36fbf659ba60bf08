use Rattle.std.proofs.Common.{◌≡◌, map, drop}
use Rattle.std.specs.List.{list_any}
use Rattle.pg_auto.specs.Autos.{stage_view}
use Rattle.pg_short.specs.Spots.{names}
use Rattle.pg_short.proofs.spots.is_named.Given as goal

abbrev pub invariant-loop-stage : goal.invariant-loop-stage
invariant-loop-stage l = list_any (names l.var) (map stage_view l.stages) ≡ list_any (names l.var) (map stage_view (drop l.stage-index l.stages))
