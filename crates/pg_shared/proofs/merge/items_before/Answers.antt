use Rattle.std.proofs.Common.{arith, sym}
use Rattle.pg_shared.specs.Changes.{is_before}
use Rattle.pg_shared.proofs.Merges.{leading_ends, leading_all}
use Rattle.pg_shared.proofs.merge.items_before.Goals as goal

pub returns-then-not-is_before : goal.returns-then-not-is_before
returns-then-not-is_before g c = leading_ends (is_before g.T.Keyed.key_of g.C.Change.named g.T.Keyed.key_cmp c.args.change.now) c.args.items.now c.loop-i.i c.index-items-i.result c.loop-i-test.true c.index-items-i.is (sym c.if-not-is_before.ensures) c.loop-i.invariant

pub returns : goal.returns
returns g c = leading_all (is_before g.T.Keyed.key_of g.C.Change.named g.T.Keyed.key_cmp c.args.change.now) c.args.items.now c.loop-i.i (let t = c.loop-i-test.false in omega arith) c.loop-i.invariant
