use Rattle.std.proofs.Common.{◌≡◌, map, take}
use Rattle.std.specs.Prelude.{flat_map}
use Rattle.pg_keyed.specs.Lists.{Each}
use Rattle.pg_auto.specs.Autos.{stage_view}
use Rattle.pg_short.specs.Selections.{IsShort}
use Rattle.pg_short.specs.Steps.{step_view}
use Rattle.pg_short.specs.Walks.{end_to}
use Rattle.pg_short.proofs.any.ends.Given as goal

abbrev pub invariant-loop-number : goal.invariant-loop-number
invariant-loop-number l = record {
  given : l.out ≡ flat_map (end_to (map stage_view l.stages) l.start l.vars (map step_view l.found)) (take l.number-index l.order);
  short : Each IsShort l.out;
}
