use Rattle.std.proofs.Common.{◌++◌, [], ◌∷◌, ap, sym, subst, ◌∙◌}
use Rattle.pg_core.specs.Core.{Replays, Step, first_core}
use Rattle.pg_core.specs.State.{Standing}
use Rattle.pg_core.proofs.Replays.{replays_more}
use Rattle.pg_core.proofs.events.replay.Goals as goal

pub loop-event-preserved : goal.loop-event-preserved
loop-event-preserved g c =
    let i = c.loop-event.invariant in
    let t = c.in_ok-step.ensures in
    let first = first_core c.args.seats c.args.seats in
    let step = subst (λ n. Step c.args.shapes n c.loop-event.replay.core c.in-Some.event c.in_ok-step.field-0 c.step.new.self.core) i.limit
    (subst (λ s. Step s c.loop-event.replay.limit c.loop-event.replay.core c.in-Some.event c.in_ok-step.field-0 c.step.new.self.core) i.shapes t.0) in
    record {
      shapes = ap (λ (s : Standing). s.shapes) t.1 ∙ i.shapes;
      limit = ap (λ (s : Standing). s.limit) t.1 ∙ i.limit;
      made = subst (λ rs. Replays c.args.shapes c.args.limit first (c.loop-event.yielded ++ c.in-Some.event ∷ []) rs c.step.new.self.core) (sym c.in_ok-push.ensures.ok)
          (replays_more c.args.shapes c.args.limit first c.loop-event.replay.core c.step.new.self.core c.loop-event.yielded c.loop-event.replies c.in-Some.event c.in_ok-step.field-0 i.made step);
    }
