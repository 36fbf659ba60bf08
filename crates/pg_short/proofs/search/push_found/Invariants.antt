use Rattle.std.proofs.Common.{◌≡◌, ◌++◌, length, map}
use Rattle.std.specs.Vec.Iter.{into_iter_items, into_iter_len}
use Rattle.pg_short.specs.Steps.{step_view}
use Rattle.pg_short.specs.Searches.{IsMore}
use Rattle.pg_short.proofs.search.push_found.Given as goal

abbrev pub invariant-loop-step : goal.invariant-loop-step
invariant-loop-step l = record {
  all : l.yielded ++ into_iter_items l.step-iterator ≡ into_iter_items l.initial.step-iterator;
  left : into_iter_len l.step-iterator ≡ length (into_iter_items l.step-iterator);
  kept : map step_view l.found.items ≡ map step_view l.fn.found.items ++ map step_view l.yielded;
  more : IsMore (length l.fn.found.items) (map step_view l.yielded) l.fn.waiting l.waiting;
}
