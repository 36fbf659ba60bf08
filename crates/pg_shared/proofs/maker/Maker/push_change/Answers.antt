use Rattle.std.proofs.Common.{arith}
use Rattle.pg_shared.specs.Made.{items_of}
use Rattle.pg_shared.specs.Changes.{is_before}
use Rattle.pg_shared.proofs.Growth.{on_then}
use Rattle.pg_shared.proofs.Merges.{leading_within, one_change}
use Rattle.pg_shared.proofs.maker.Maker.push_change.Goals as goal

pub returns-clause-items : goal.returns-clause-items
returns-clause-items g c =
    on_then _ _ c.push_some.result
    (λ e. λ more. one_change g.T.Keyed.key_of g.C.Change.named g.C.Change.given g.T.Keyed.key_cmp g.met.T.Keyed.exact (items_of c.args.self.now) (items_of c.push_copies.new.self) (items_of c.push_some.new.self) c.split_at.result.0.now c.split_at.result.1.now c.past.result.now c.args.left.now.now c.in_ok-given.given c.args.change.now c.items_before-count.result
    c.items_before-count.ensures c.split_at.ensures.front c.split_at.ensures.back c.past.ensures c.in_ok-given.ensures c.in_ok-push_copies.ensures.items e more)
    c.push_some.ensures.items

pub split_at-requires : goal.split_at-requires
split_at-requires g c =
    let w = leading_within (is_before g.T.Keyed.key_of g.C.Change.named g.T.Keyed.key_cmp c.args.change.now) c.args.left.now.now in
    let e = c.items_before-count.ensures in
    omega arith
