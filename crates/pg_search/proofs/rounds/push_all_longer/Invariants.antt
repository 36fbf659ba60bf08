use Rattle.std.proofs.Common.{◌≡◌, ◌++◌, ◌<◌, map, length}
use Rattle.std.specs.Prelude.{flat_map}
use Rattle.std.specs.Vec.Iter.{into_iter_items, into_iter_len}
use Rattle.pg_keyed.specs.Lists.{Each}
use Rattle.pg_auto.specs.Autos.{leg_view}
use Rattle.pg_search.specs.Numbers.{hops_at}
use Rattle.pg_search.specs.Steps.{AreAdded}
use Rattle.pg_search.specs.Rounds.{longer}
use Rattle.pg_search.proofs.rounds.push_all_longer.Given as goal

abbrev pub invariant-loop-walk : goal.invariant-loop-walk
invariant-loop-walk g l = record {
  all : l.yielded ++ into_iter_items l.walk-iterator ≡ into_iter_items l.initial.walk-iterator;
  left : into_iter_len l.walk-iterator ≡ length (into_iter_items l.walk-iterator);
  within : Each (λ k. k < length l.fn.numbers.walks) (into_iter_items l.walk-iterator);
  added : AreAdded l.fn.numbers l.numbers l.fn.out.items l.out.items (flat_map (longer (g.V.View.shapes l.view) l.graph (g.V.View.tables l.view) l.fn.numbers.start (leg_view l.leg)) (map (hops_at l.fn.numbers) l.yielded));
}
