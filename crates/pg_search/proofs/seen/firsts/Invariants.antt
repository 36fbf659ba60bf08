use Rattle.std.proofs.Common.{◌≡◌, ◌++◌, length}
use Rattle.std.specs.Vec.Iter.{into_iter_items, into_iter_len}
use Rattle.pg_search.specs.Seen.{firsts_no}
use Rattle.pg_search.proofs.seen.firsts.Given as goal

abbrev pub invariant-loop-mention : goal.invariant-loop-mention
invariant-loop-mention l = record {
  all : l.yielded ++ into_iter_items l.mention-iterator ≡ into_iter_items l.initial.mention-iterator;
  left : into_iter_len l.mention-iterator ≡ length (into_iter_items l.mention-iterator);
  first : l.out.items ≡ firsts_no l.yielded;
}
