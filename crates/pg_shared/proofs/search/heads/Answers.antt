use Rattle.std.proofs.Common.{sym, ap, ◌∙◌, arith, rules}
use Rattle.std.specs.Ordering.{is_gt}
use Rattle.pg_chunks.specs.Digits.{digits_upper, digits_lower}
use Rattle.pg_shared.proofs.Heads.{heads_over, heads_under, heads_within, not_greater}
use Rattle.pg_shared.proofs.search.heads.Goals as goal

pub loop-low-init : goal.loop-low-init
loop-low-init g c = record {
  order = omega arith;
  within = omega arith;
  below = omega arith;
  above = heads_within g.T.Keyed.key_of g.T.Keyed.key_cmp g.met.T.Keyed.exact (g.P.Probe.sought c.args.key.now) c.args.parts.now;
  cost = search rules;
  counts = omega arith;
  some = λ z. omega arith;
}

pub loop-low-preserved-in-Greater : goal.loop-low-preserved-in-Greater
loop-low-preserved-in-Greater g c =
    let i = c.loop-low.invariant in
    let t = c.loop-low-test.true in
    let d = digits_lower c.loop-low.low c.loop-low.high t in
    let w = i.within in
    let s = i.cost in
    let n = i.counts in
    let e = c.tick.ensures in
    record {
      order = omega arith;
      within = omega arith;
      below = i.below;
      above = heads_under g.T.Keyed.key_of g.T.Keyed.key_cmp g.met.T.Keyed.exact (g.P.Probe.sought c.args.key.now) c.args.parts.now _ c.index-parts-middle.result (omega arith) c.index-parts-middle.is (ap (λ p. is_gt (g.T.Keyed.key_cmp (g.T.Keyed.key_of p.first) (g.P.Probe.sought c.args.key.now))) c.index-parts-middle.is ∙ sym (ap is_gt c.in-Greater.ensures));
      cost = omega arith;
      counts = omega arith;
      some = λ z. omega arith;
    }

pub loop-low-preserved : goal.loop-low-preserved
loop-low-preserved g c =
    let i = c.loop-low.invariant in
    let t = c.loop-low-test.true in
    let d = digits_upper c.loop-low.low c.loop-low.high t in
    let w = i.within in
    let s = i.cost in
    let n = i.counts in
    let e = c.tick.ensures in
    record {
      order = omega arith;
      within = i.within;
      below = heads_over g.T.Keyed.key_of g.T.Keyed.key_cmp g.met.T.Keyed.exact (g.P.Probe.sought c.args.key.now) c.args.parts.now _ c.index-parts-middle.result c.requires.leads c.requires.ascends (omega arith) c.index-parts-middle.is (ap (λ p. is_gt (g.T.Keyed.key_cmp (g.T.Keyed.key_of p.first) (g.P.Probe.sought c.args.key.now))) c.index-parts-middle.is ∙ sym (ap is_gt c.order.ensures) ∙ not_greater _ c.in_default.not-Greater);
      above = i.above;
      cost = omega arith;
      counts = omega arith;
      some = λ z. omega arith;
    }
