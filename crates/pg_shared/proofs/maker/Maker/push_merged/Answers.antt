use Rattle.std.proofs.Common.{◌+◌, arith, take, drop, sym, subst, ap, ◌∙◌}
use Rattle.pg_keyed.specs.Keyed.{Ascends}
use Rattle.pg_shared.specs.Made.{items_of}
use Rattle.pg_shared.proofs.Merges.{drop_ascends, parts_within, part_more}
use Rattle.pg_shared.proofs.maker.Maker.push_merged.Goals as goal

pub split_at-requires : goal.split_at-requires
split_at-requires g c =
    let w = parts_within g.T.Keyed.key_of g.C.Change.named g.C.Change.given g.T.Keyed.key_cmp g.met.T.Keyed.exact (drop (c.parts.i + 1) c.args.parts.now) c.parts.left.now in
    let e = c.changes_here.ensures in
    omega arith

pub parts-preserved : goal.parts-preserved
parts-preserved g c =
    let ps = c.args.parts.now in
    let ws = c.parts.left.now in
    let front = c.split_at.ensures.front in
    let back = c.split_at.ensures.back in
    record {
      made = c.in_ok-push_under.ensures.made;
      left = subst (Ascends g.C.Change.named g.T.Keyed.key_cmp) (sym back) (drop_ascends g.C.Change.named g.T.Keyed.key_cmp g.met.T.Keyed.exact c.changes_here.result ws c.parts.invariant.left);
      items = part_more g.T.Keyed.key_of g.C.Change.named g.C.Change.given g.T.Keyed.key_cmp g.met.T.Keyed.exact (items_of c.args.self.now) (items_of c.parts.self) (items_of c.push_under.new.self) _ ps c.parts.i c.index-parts-i.result ws c.split_at.result.0.now c.split_at.result.1.now
          c.requires.leads c.requires.ascends c.parts.invariant.left c.parts-test.true c.index-parts-i.is (front ∙ ap (λ n. take n ws) c.changes_here.ensures) (back ∙ ap (λ n. drop n ws) c.changes_here.ensures) c.in_ok-push_under.ensures.items c.parts.invariant.items;
    }
