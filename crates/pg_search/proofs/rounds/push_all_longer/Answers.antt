use Rattle.std.proofs.Common.{◌≡◌, ◌<◌, ◌∷◌, [], length, ap, subst, ◌∙◌, append_assoc, arith}
use Rattle.std.specs.Vec.Iter.{into_iter_items}
use Rattle.pg_keyed.specs.Lists.{Each}
use Rattle.pg_value.specs.declared.shape.ElemId.{ElemId}
use Rattle.pg_auto.specs.Autos.{leg_view}
use Rattle.pg_search.specs.Numbers.{hops_at}
use Rattle.pg_search.specs.Rounds.{longer}
use Rattle.pg_search.specs.Steps.{AreAdded}
use Rattle.pg_search.proofs.Adding.{add_longer}
use Rattle.pg_search.proofs.rounds.push_all_longer.Goals as goal

pub loop-walk-preserved : goal.loop-walk-preserved
loop-walk-preserved g c =
    let at = c.loop-walk in
    let x = c.in-Some.walk in
    let over = λ (v : ElemId). longer (g.V.View.shapes c.args.view.now) c.args.graph.now (g.V.View.tables c.args.view.now) v (leg_view c.args.leg.now) in
    let steps : into_iter_items at.walk-iterator ≡ x ∷ into_iter_items c.next.new.self = c.in-Some.ensures.steps.0 in
    let within : Each (λ k. k < length c.args.numbers.now.walks) (x ∷ into_iter_items c.next.new.self) = subst (λ ks. Each (λ k. k < length c.args.numbers.now.walks) ks) steps at.invariant.within in
    record {
      all = append_assoc at.yielded (x ∷ []) _ ∙ rw (← steps) at.invariant.all;
      left = let was = at.invariant.left in let gone = c.in-Some.ensures.steps.1 in let short = ap length steps in omega arith;
      within = within.1;
      added = add_longer (over c.args.numbers.now.start) c.args.numbers.now at.numbers c.push_longer.new.numbers x c.args.out.now.items at.out.items c.push_longer.new.out.items at.yielded within.0 at.invariant.added
          (subst (λ (v : ElemId). AreAdded at.numbers c.push_longer.new.numbers at.out.items c.push_longer.new.out.items (over v (hops_at at.numbers x))) at.invariant.added.grow.start c.in_ok-push_longer.ensures);
    }
