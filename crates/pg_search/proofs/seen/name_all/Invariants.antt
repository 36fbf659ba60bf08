use Rattle.std.proofs.Common.{◌≡◌, ◌++◌, ◌<◌, length}
use Rattle.std.specs.Vec.Iter.{into_iter_items, into_iter_len}
use Rattle.pg_keyed.specs.Lists.{Each}
use Rattle.pg_search.specs.Steps.{IsNamed}
use Rattle.pg_search.proofs.seen.name_all.Given as goal

abbrev pub invariant-loop-mention : goal.invariant-loop-mention
invariant-loop-mention l = record {
  all : l.yielded ++ into_iter_items l.mention-iterator ≡ into_iter_items l.initial.mention-iterator;
  left : into_iter_len l.mention-iterator ≡ length (into_iter_items l.mention-iterator);
  within : Each (λ m. m.1 < length l.fn.numbers.elems) (into_iter_items l.mention-iterator);
  named : IsNamed l.fn.numbers l.names l.yielded l.at l.numbers;
}
