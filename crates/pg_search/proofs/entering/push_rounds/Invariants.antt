use Rattle.std.proofs.Common.{◌≡◌, ◌++◌, List, length}
use Rattle.std.specs.Prelude.{flat_map}
use Rattle.std.specs.Vec.Iter.{into_iter_items, into_iter_len}
use Rattle.pg_keyed.specs.Lists.{Each}
use Rattle.pg_value.specs.declared.shape.GraphShape.{GraphShape}
use Rattle.pg_meaning.specs.Walks.{Hop}
use Rattle.pg_auto.specs.Autos.{stage_view}
use Rattle.pg_auto.specs.Stages.{Stage}
use Rattle.pg_search.specs.Numbers.{Grow, IsWithin, state_of}
use Rattle.pg_search.specs.Searches.{IsSomeRound, AreRounds, PutStates, entered_if, task_at}
use Rattle.pg_search.proofs.entering.push_rounds.Given as goal

abbrev pub invariant-loop-walk : goal.invariant-loop-walk
invariant-loop-walk g l = record {
  all : l.yielded ++ into_iter_items l.walk-iterator ≡ into_iter_items l.initial.walk-iterator;
  left : into_iter_len l.walk-iterator ≡ length (into_iter_items l.walk-iterator);
  some : Each (IsSomeRound l.fn.numbers l.state (stage_view l.stage)) (into_iter_items l.walk-iterator);
  grow : Grow l.fn.numbers l.numbers;
  kept : Each (IsWithin l.numbers) l.states;
  put : (stages : List Stage) (graph : GraphShape) (rounds : List (List Hop)) → AreRounds l.fn.numbers l.state (stage_view l.stage) l.yielded rounds
      → PutStates l.fn.numbers l.numbers l.fn.states l.states (flat_map (entered_if (task_at (g.V.View.shapes l.view) graph (g.V.View.tables l.view) stages l.mode l.fn.numbers.start) (state_of l.fn.numbers l.state) (stage_view l.stage)) rounds);
}
