use Rattle.std.proofs.Common.{◌≡◌, ◌++◌, drop}
use Rattle.pg_keyed.specs.Keyed.{weave}
use Rattle.pg_shared.specs.Made.{IsMade, items_of}
use Rattle.pg_shared.proofs.maker.Maker.push_changed.Given as goal

abbrev pub invariant-changes : goal.invariant-changes
invariant-changes g l = record {
  made : IsMade l.self;
  items : items_of l.self ++ weave g.T.Keyed.key_of g.C.Change.named g.C.Change.given g.T.Keyed.key_cmp l.left (drop l.change-index l.changes) ≡ items_of l.fn.self ++ weave g.T.Keyed.key_of g.C.Change.named g.C.Change.given g.T.Keyed.key_cmp l.items l.changes;
}
