-- The parts so far, none of which was refused.
use Rattle.std.proofs.Common.{◌≡◌, ◌++◌, length}
use Rattle.std.specs.Vec.Iter.{into_iter_items, into_iter_len}
use Rattle.pg_work.specs.Parts.{AreParts}
use Rattle.pg_work.proofs.starts.joined.Given as goal

abbrev pub invariant-parts : goal.invariant-parts
invariant-parts g l = record {
  all : l.yielded ++ into_iter_items l.part-iterator ≡ into_iter_items l.initial.part-iterator;
  left : into_iter_len l.part-iterator ≡ length (into_iter_items l.part-iterator);
  made : AreParts l.yielded l.made.items;
}
