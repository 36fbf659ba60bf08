use Rattle.std.proofs.Common.{◌≡◌, ◌++◌, ◌+◌, ◌≤◌, length}
use Rattle.std.specs.Prelude.{min}
use Rattle.std.specs.Vec.Iter.{into_iter_items, into_iter_len}
use Rattle.pg_shared.specs.Made.{IsMade, items_of}
use Rattle.pg_shared.proofs.maker.Maker.push_items.Given as goal

abbrev pub invariant-items : goal.invariant-items
invariant-items g l = record {
  all : l.yielded ++ into_iter_items l.item-iterator ≡ into_iter_items l.initial.item-iterator;
  left : into_iter_len l.item-iterator ≡ length (into_iter_items l.item-iterator);
  made : IsMade l.self;
  items : items_of l.self ≡ items_of l.fn.self ++ l.yielded;
  rest : min 64 (length l.fn.self.pending.items + length l.yielded) ≤ length l.self.pending.items;
}
