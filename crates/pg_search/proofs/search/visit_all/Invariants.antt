use Rattle.std.proofs.Common.{◌≤◌, map, length}
use Rattle.pg_auto.specs.Autos.{stage_view}
use Rattle.pg_search.specs.Numbers.{state_of}
use Rattle.pg_search.specs.Searches.{IsVisiting, task_at}
use Rattle.pg_search.proofs.Visits.{waiting}
use Rattle.pg_search.proofs.search.visit_all.Given as goal

abbrev pub invariant-states : goal.invariant-states
invariant-states g l = record {
  within : l.at ≤ length l.states;
  visiting : IsVisiting (task_at (g.V.View.shapes l.view) l.auto'.graph.now (g.V.View.tables l.view) (map stage_view l.auto'.stages) l.mode l.fn.numbers.start) l.numbers l.states l.at;
}

abbrev pub decreases-states : goal.decreases-states
decreases-states g l = waiting (task_at (g.V.View.shapes l.view) l.auto'.graph.now (g.V.View.tables l.view) (map stage_view l.auto'.stages) l.mode l.fn.numbers.start) (map (state_of l.numbers) l.states) l.at
