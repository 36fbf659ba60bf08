-- One more task.
use Rattle.std.proofs.Common.{◌≡◌, [], ◌∷◌, length, ap, ◌∙◌, append_assoc, arith}
use Rattle.std.specs.Vec.Iter.{into_iter_items}
use Rattle.pg_outside.proofs.Zips.{zip_more}
use Rattle.pg_outside.proofs.spawner.each_in_turn.Goals as goal

pub tasks-preserved : goal.tasks-preserved
tasks-preserved g c =
    let at = c.tasks in
    let x = c.in-Some.task in
    let steps : into_iter_items at.task-iterator ≡ x ∷ into_iter_items c.next.new.self = c.in-Some.ensures.steps.0 in
    record {
      all = append_assoc at.yielded (x ∷ []) _ ∙ rw (← steps) at.invariant.all;
      left = let was = at.invariant.left in let gone = c.in-Some.ensures.steps.1 in let short = ap length steps in omega arith;
      waiting = (rw steps at at.invariant.waiting).1;
      kept = rw c.in_ok-push.ensures.items (zip_more _ _ _ _ _ at.invariant.kept c.run.ensures);
    }
