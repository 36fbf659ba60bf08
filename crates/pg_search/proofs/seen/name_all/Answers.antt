use Rattle.std.proofs.Common.{◌≡◌, ◌<◌, ℕ, ◌∷◌, [], List, length, ap, subst, ◌∙◌, append_assoc, arith}
use Rattle.std.specs.Vec.Iter.{into_iter_items}
use Rattle.pg_keyed.specs.Lists.{Each}
use Rattle.pg_search.proofs.Naming.{name_more}
use Rattle.pg_search.proofs.seen.name_all.Goals as goal

pub loop-mention-preserved : goal.loop-mention-preserved
loop-mention-preserved c =
    let at = c.loop-mention in
    let x = c.in-Some.mention in
    let steps : into_iter_items at.mention-iterator ≡ x ∷ into_iter_items c.next.new.self = c.in-Some.ensures.steps.0 in
    let within : Each (λ (m : ℕ × ℕ). m.1 < length c.args.numbers.now.elems) (x ∷ into_iter_items c.next.new.self) = subst (λ (ks : List (ℕ × ℕ)). Each (λ (m : ℕ × ℕ). m.1 < length c.args.numbers.now.elems) ks) steps at.invariant.within in
    record {
      all = append_assoc at.yielded (x ∷ []) _ ∙ rw (← steps) at.invariant.all;
      left = let was = at.invariant.left in let gone = c.in-Some.ensures.steps.1 in let short = ap length steps in omega arith;
      within = within.1;
      named = name_more c.args.numbers.now at.numbers c.name.new.self c.args.names at.at c.in_ok-at.at at.yielded x at.invariant.named within.0 c.in_ok-at.ensures;
    }
