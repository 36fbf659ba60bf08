use Rattle.std.proofs.Common.{arith}
use Rattle.pg_shared.specs.Made.{items_of}
use Rattle.pg_shared.proofs.Growth.{on_then}
use Rattle.pg_shared.proofs.Merges.{changes_end}
use Rattle.pg_shared.proofs.maker.Maker.push_changed.Goals as goal

pub returns-clause-items : goal.returns-clause-items
returns-clause-items g c =
    on_then _ _ c.push_copies.result
    (λ e. changes_end g.T.Keyed.key_of g.C.Change.named g.C.Change.given g.T.Keyed.key_cmp g.met.T.Keyed.exact (items_of c.changes.self) (items_of c.push_copies.new.self) _ c.changes.left.now c.args.changes.now c.changes.change-index
    (let t = c.changes-test.false in omega arith) c.changes.invariant.items e)
    c.push_copies.ensures.items
