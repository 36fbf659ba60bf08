use Rattle.std.proofs.Common.{◌≡◌, ◌++◌, ◌+◌, ◌≤◌, take, length}
use Rattle.std.specs.Prelude.{min}
use Rattle.pg_shared.specs.Made.{IsMade, items_of}
use Rattle.pg_shared.proofs.maker.Maker.push_copies.Given as goal

abbrev pub invariant-items : goal.invariant-items
invariant-items g l = record {
  made : IsMade l.self;
  items : items_of l.self ≡ items_of l.fn.self ++ take l.item-index l.items;
  rest : min 64 (length l.fn.self.pending.items + l.item-index) ≤ length l.self.pending.items;
}
