use Rattle.std.proofs.Common.{◌≡◌, ◌∷◌, [], List, length, ap, sym, subst, ◌∙◌, append_assoc, arith}
use Rattle.std.specs.Vec.Iter.{into_iter_items}
use Rattle.pg_meaning.specs.Walks.{Hop}
use Rattle.pg_search.specs.Hops.{hop_view}
use Rattle.pg_short.specs.Rests.{IsFarther}
use Rattle.pg_short.proofs.Searching.{map_both}
use Rattle.pg_short.proofs.NumberedRests.{farther_none, farther_more}
use Rattle.pg_short.proofs.rests.step_all.Goals as goal

pub loop-hop-preserved : goal.loop-hop-preserved
loop-hop-preserved c =
    let at = c.loop-hop in
    let x = c.in-Some.hop in
    let steps : into_iter_items at.hop-iterator ≡ x ∷ into_iter_items c.next.new.self = c.in-Some.ensures.steps.0 in
    record {
      all = append_assoc at.yielded (x ∷ []) _ ∙ rw (← steps) at.invariant.all;
      left = let was = at.invariant.left in let gone = c.in-Some.ensures.steps.1 in let short = ap length steps in omega arith;
      farther = subst (λ (hs : List Hop). IsFarther c.args.numbers.now c.args.walk hs c.in_ok-at.at c.step.new.self) (sym (map_both hop_view at.yielded (x ∷ [])))
          (farther_more c.args.numbers.now at.numbers c.step.new.self c.args.walk at.at c.in_ok-at.at _ (hop_view x) at.invariant.farther c.in_ok-at.ensures);
    }
