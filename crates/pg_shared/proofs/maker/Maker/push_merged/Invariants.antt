use Rattle.std.proofs.Common.{◌≡◌, ◌++◌, drop}
use Rattle.pg_keyed.specs.Keyed.{Ascends, weave}
use Rattle.pg_shared.specs.Parts.{joined}
use Rattle.pg_shared.specs.Made.{IsMade, items_of}
use Rattle.pg_shared.proofs.maker.Maker.push_merged.Given as goal

abbrev pub invariant-parts : goal.invariant-parts
invariant-parts g l = record {
  made : IsMade l.self;
  left : Ascends g.C.Change.named g.T.Keyed.key_cmp l.left;
  items : items_of l.self ++ weave g.T.Keyed.key_of g.C.Change.named g.C.Change.given g.T.Keyed.key_cmp (joined (drop l.i l.parts)) l.left ≡ items_of l.fn.self ++ weave g.T.Keyed.key_of g.C.Change.named g.C.Change.given g.T.Keyed.key_cmp (joined l.parts) l.changes;
}
