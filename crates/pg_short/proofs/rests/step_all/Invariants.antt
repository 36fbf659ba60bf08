use Rattle.std.proofs.Common.{◌≡◌, ◌++◌, length}
use Rattle.std.specs.Vec.Iter.{into_iter_items, into_iter_len}
use Rattle.pg_short.specs.Rounds.{hops_in}
use Rattle.pg_short.specs.Rests.{IsFarther}
use Rattle.pg_short.proofs.rests.step_all.Given as goal

abbrev pub invariant-loop-hop : goal.invariant-loop-hop
invariant-loop-hop l = record {
  all : l.yielded ++ into_iter_items l.hop-iterator ≡ into_iter_items l.initial.hop-iterator;
  left : into_iter_len l.hop-iterator ≡ length (into_iter_items l.hop-iterator);
  farther : IsFarther l.fn.numbers l.walk (hops_in l.yielded) l.at l.numbers;
}
