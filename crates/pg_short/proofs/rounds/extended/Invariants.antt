use Rattle.std.proofs.Common.{◌≡◌, ◌≤◌, ◌+◌, take}
use Rattle.std.specs.Prelude.{flat_map, sum_by}
use Rattle.pg_auto.specs.Autos.{leg_view}
use Rattle.pg_short.specs.Costs.{front_cost}
use Rattle.pg_short.specs.Rounds.{all_hops, reading, longer_over}
use Rattle.pg_short.proofs.rounds.extended.Given as goal

abbrev pub invariant-loop-front : goal.invariant-loop-front
invariant-loop-front g l = record {
  hops : all_hops l.found.items ≡ flat_map (longer_over (reading (g.V.View.shapes l.view) (g.V.View.tables l.view) l.graph l.vertex) (leg_view l.leg) l.vertex) (take l.front-index l.fronts);
  cost : l.steps ≤ l.fn.steps + sum_by (front_cost (g.V.View.hop_cost l.view) (g.V.View.shapes l.view) l.graph (leg_view l.leg) l.vertex) (take l.front-index l.fronts);
}
