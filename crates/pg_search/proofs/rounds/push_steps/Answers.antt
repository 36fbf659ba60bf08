use Rattle.std.proofs.Common.{◌≡◌, ◌∷◌, [], length, ap, ◌∙◌, append_assoc, arith}
use Rattle.std.specs.Vec.Iter.{into_iter_items}
use Rattle.pg_search.proofs.Adding.{add_hop}
use Rattle.pg_search.proofs.rounds.push_steps.Goals as goal

pub loop-hop-preserved : goal.loop-hop-preserved
loop-hop-preserved c =
    let at = c.loop-hop in
    let x = c.in-Some.hop in
    let steps : into_iter_items at.hop-iterator ≡ x ∷ into_iter_items c.next.new.self = c.in-Some.ensures.steps.0 in
    record {
      all = append_assoc at.yielded (x ∷ []) _ ∙ rw (← steps) at.invariant.all;
      left = let was = at.invariant.left in let gone = c.in-Some.ensures.steps.1 in let short = ap length steps in omega arith;
      added = add_hop c.args.numbers.now at.numbers c.step.new.self c.args.walk c.in_ok-number.number x c.args.out.now.items at.out.items c.push.new.self.items at.yielded c.requires at.invariant.added c.in_ok-number.ensures c.in_ok-push.ensures.items;
    }
