use Rattle.std.proofs.Common.{arith, sym}
use Rattle.pg_shared.specs.Changes.{is_named_before}
use Rattle.pg_shared.proofs.Merges.{leading_ends, leading_all}
use Rattle.pg_shared.proofs.merge.changes_before.Goals as goal

pub returns-then-not-is_named_before : goal.returns-then-not-is_named_before
returns-then-not-is_named_before g c = leading_ends (is_named_before g.T.Keyed.key_of g.C.Change.named g.T.Keyed.key_cmp c.args.item.now) c.args.changes.now c.loop-i.i c.index-changes-i.result c.loop-i-test.true c.index-changes-i.is (sym c.if-not-is_named_before.ensures) c.loop-i.invariant

pub returns : goal.returns
returns g c = leading_all (is_named_before g.T.Keyed.key_of g.C.Change.named g.T.Keyed.key_cmp c.args.item.now) c.args.changes.now c.loop-i.i (let t = c.loop-i-test.false in omega arith) c.loop-i.invariant
