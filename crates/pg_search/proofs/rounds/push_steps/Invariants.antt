use Rattle.std.proofs.Common.{◌≡◌, ◌++◌, map, length}
use Rattle.std.specs.Vec.Iter.{into_iter_items, into_iter_len}
use Rattle.pg_search.specs.Numbers.{hops_at}
use Rattle.pg_search.specs.Steps.{AreAdded}
use Rattle.pg_search.specs.Rounds.{with_hop}
use Rattle.pg_search.proofs.rounds.push_steps.Given as goal

abbrev pub invariant-loop-hop : goal.invariant-loop-hop
invariant-loop-hop l = record {
  all : l.yielded ++ into_iter_items l.hop-iterator ≡ into_iter_items l.initial.hop-iterator;
  left : into_iter_len l.hop-iterator ≡ length (into_iter_items l.hop-iterator);
  added : AreAdded l.fn.numbers l.numbers l.fn.out.items l.out.items (map (with_hop (hops_at l.fn.numbers l.walk)) l.yielded);
}
