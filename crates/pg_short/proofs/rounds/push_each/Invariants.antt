use Rattle.std.proofs.Common.{◌≡◌, ◌++◌, [], ◌∷◌, length, map}
use Rattle.std.specs.Vec.Iter.{into_iter_items, into_iter_len}
use Rattle.pg_short.proofs.rounds.push_each.Given as goal

abbrev pub invariant-loop-hop : goal.invariant-loop-hop
invariant-loop-hop l = record {
  all : l.yielded ++ into_iter_items l.hop-iterator ≡ into_iter_items l.initial.hop-iterator;
  left : into_iter_len l.hop-iterator ≡ length (into_iter_items l.hop-iterator);
  kept : l.found.items ≡ l.fn.found.items ++ map (λ hop. l.front ++ hop ∷ []) l.yielded;
}
