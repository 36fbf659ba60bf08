use Rattle.std.proofs.Common.{◌≤◌, ◌+◌, map}
use Rattle.pg_auto.specs.Autos.{pattern}
use Rattle.pg_short.specs.Costs.{spots_cost}
use Rattle.pg_short.specs.Steps.{spot_view}
use Rattle.pg_short.specs.Found.{IsSearching, task_over}
use Rattle.pg_short.proofs.search.go_on_all.Given as goal

abbrev pub invariant-loop-turn : goal.invariant-loop-turn
invariant-loop-turn g l = record {
  searching : IsSearching (task_over (g.V.View.shapes l.view) (g.V.View.tables l.view) (pattern l.auto') l.start) l.search;
  cost : l.steps + spots_cost (g.V.View.hop_cost l.view) (task_over (g.V.View.shapes l.view) (g.V.View.tables l.view) (pattern l.auto') l.start) (map spot_view l.fn.search.spots.keys)
      ≤ l.fn.steps + spots_cost (g.V.View.hop_cost l.view) (task_over (g.V.View.shapes l.view) (g.V.View.tables l.view) (pattern l.auto') l.start) (map spot_view l.search.spots.keys);
}
