use Rattle.std.proofs.Common.{◌≡◌, ◌∷◌, [], length, ap, ◌∙◌, sym, append_assoc, arith}
use Rattle.std.specs.Vec.Iter.{into_iter_items}
use Rattle.pg_search.specs.Seen.{with_first}
use Rattle.pg_search.proofs.Naming.{firsts_push}
use Rattle.pg_search.proofs.seen.firsts.Goals as goal

pub loop-mention-preserved : goal.loop-mention-preserved
loop-mention-preserved c =
    let at = c.loop-mention in
    let x = c.in-Some.mention in
    let steps : into_iter_items at.mention-iterator ≡ x ∷ into_iter_items c.next.new.self = c.in-Some.ensures.steps.0 in
    record {
      all = append_assoc at.yielded (x ∷ []) _ ∙ rw (← steps) at.invariant.all;
      left = let was = at.invariant.left in let gone = c.in-Some.ensures.steps.1 in let short = ap length steps in omega arith;
      first = c.in_ok-push_first.ensures ∙ ap (λ xs. with_first xs x) at.invariant.first ∙ sym (firsts_push at.yielded x);
    }
