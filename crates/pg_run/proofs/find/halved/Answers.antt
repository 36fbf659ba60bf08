use Rattle.std.proofs.Common.{◌+◌, ◌-◌, ◌/◌, ◌<◌, ◌≤◌, sym, arith}
use Rattle.pg_chunks.specs.Digits.{digits_upper, digits_lower, digits_half}
use Rattle.pg_value.specs.Order.{key_cmp}
use Rattle.pg_value.specs.Orders.{keys}
use Rattle.pg_value.specs.TablesLaws.{key_named}
use Rattle.pg_run.proofs.Halves.{upper, lower, here, nowhere}
use Rattle.pg_run.proofs.find.halved.Goals as goal

pub halves-preserved-in-Greater : goal.halves-preserved-in-Greater
halves-preserved-in-Greater g c =
    let t = c.halves-test.true in
    let i = c.halves.invariant in
    let e = c.tick.ensures in
    let cost = i.1 in
    let counts = i.2 in
    let d = digits_upper c.halves.low c.halves.high t in
    let less : c.halves.low + (c.halves.high - c.halves.low) / 2 < c.halves.high = omega arith in (
      upper key_named key_cmp keys c.args.key.now.values c.args.writes.now c.halves.low c.halves.high _ c.index-writes-middle.result c.requires i.0 less c.index-writes-middle.is (sym c.in-Greater.ensures),
      omega (arith, cost, d, e),
      omega (arith, counts, e),
    )

pub halves-preserved : goal.halves-preserved
halves-preserved g c =
    let t = c.halves-test.true in
    let i = c.halves.invariant in
    let e = c.tick.ensures in
    let cost = i.1 in
    let counts = i.2 in
    let d = digits_lower c.halves.low c.halves.high t in
    let less : c.halves.low + (c.halves.high - c.halves.low) / 2 < c.halves.high = omega arith in
    let from : c.halves.low ≤ c.halves.low + (c.halves.high - c.halves.low) / 2 = omega arith in (
      lower key_named key_cmp keys c.args.key.now.values c.args.writes.now c.halves.low c.halves.high _ c.index-writes-middle.result c.requires i.0 from less c.index-writes-middle.is (sym c.in-Less.ensures),
      omega (arith, cost, d, e),
      omega (arith, counts, e),
    )

pub returns-in-Equal-clause-value : goal.returns-in-Equal-clause-value
returns-in-Equal-clause-value g c =
    let t = c.halves-test.true in
    let w = c.halves.invariant.0.within in
    here key_named key_cmp keys c.args.key.now.values c.args.writes.now _ c.index-writes-middle.result c.requires (omega arith) c.index-writes-middle.is (sym c.in-Equal.ensures)

pub returns-in-Equal-clause-cost : goal.returns-in-Equal-clause-cost
returns-in-Equal-clause-cost g c =
    let t = c.halves-test.true in
    let cost = c.halves.invariant.1 in
    let e = c.tick.ensures in
    let d = digits_half (c.halves.high - c.halves.low) (omega arith) in
    omega (arith, cost, d, e)

pub returns-clause-value : goal.returns-clause-value
returns-clause-value g c = nowhere key_named key_cmp keys c.args.key.now.values c.args.writes.now c.halves.low c.halves.high c.requires c.halves.invariant.0 (let t = c.halves-test.false in omega arith)
