use Rattle.std.proofs.Common.{sym, ap, ◌∙◌, arith}
use Rattle.pg_keyed.specs.Searches.{at_item, at_gap}
use Rattle.pg_chunks.specs.Digits.{digits_upper, digits_lower}
use Rattle.pg_shared.proofs.Halves.{below, above}
use Rattle.pg_shared.proofs.search.search.Goals as goal

pub loop-low-preserved-in-Less : goal.loop-low-preserved-in-Less
loop-low-preserved-in-Less g c =
    let i = c.loop-low.invariant in
    let t = c.loop-low-test.true in
    let d = digits_upper c.loop-low.low c.loop-low.high t in
    let w = i.within in
    let s = i.cost in
    let n = i.counts in
    let e = c.tick.ensures in
    record {
      order = omega arith;
      within = i.within;
      below = below g.T.Keyed.key_of g.T.Keyed.key_cmp g.met.T.Keyed.exact (g.P.Probe.sought c.args.key.now) c.args.items.now _ c.index-items-middle.result c.requires (omega arith) (ap (λ x. g.T.Keyed.key_cmp (g.T.Keyed.key_of x) (g.P.Probe.sought c.args.key.now)) (sym c.index-items-middle.is) ∙ sym c.in-Less.ensures);
      above = i.above;
      cost = omega arith;
      counts = omega arith;
    }

pub returns-in-Equal-clause-value : goal.returns-in-Equal-clause-value
returns-in-Equal-clause-value g c =
    let t = c.loop-low-test.true in
    let w = c.loop-low.invariant.within in
    at_item g.T.Keyed.key_of g.T.Keyed.key_cmp g.met.T.Keyed.exact (g.P.Probe.sought c.args.key.now) c.args.items.now _ c.index-items-middle.result c.requires (omega arith) (ap (λ x. g.T.Keyed.key_cmp (g.T.Keyed.key_of x) (g.P.Probe.sought c.args.key.now)) (sym c.index-items-middle.is) ∙ sym c.in-Equal.ensures)

pub returns-in-Equal-clause-cost : goal.returns-in-Equal-clause-cost
returns-in-Equal-clause-cost g c =
    let d = digits_upper c.loop-low.low c.loop-low.high c.loop-low-test.true in
    let s = c.loop-low.invariant.cost in
    let e = c.tick.ensures in
    omega arith

pub loop-low-preserved : goal.loop-low-preserved
loop-low-preserved g c =
    let i = c.loop-low.invariant in
    let t = c.loop-low-test.true in
    let d = digits_lower c.loop-low.low c.loop-low.high t in
    let w = i.within in
    let s = i.cost in
    let n = i.counts in
    let e = c.tick.ensures in
    record {
      order = omega arith;
      within = omega arith;
      below = i.below;
      above = above g.T.Keyed.key_of g.T.Keyed.key_cmp g.met.T.Keyed.exact (g.P.Probe.sought c.args.key.now) c.args.items.now _ c.index-items-middle.result c.requires (omega arith) (ap (λ x. g.T.Keyed.key_cmp (g.T.Keyed.key_of x) (g.P.Probe.sought c.args.key.now)) (sym c.index-items-middle.is) ∙ sym c.in-Greater.ensures);
      cost = omega arith;
      counts = omega arith;
    }

pub returns-clause-value : goal.returns-clause-value
returns-clause-value g c =
    let i = c.loop-low.invariant in
    let t = c.loop-low-test.false in
    let o = i.order in
    let w = i.within in
    at_gap g.T.Keyed.key_of g.T.Keyed.key_cmp g.met.T.Keyed.exact (g.P.Probe.sought c.args.key.now) c.args.items.now _ (omega arith) i.below (λ j d m n. i.above j d (omega arith) n) c.requires
