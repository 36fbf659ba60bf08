use Rattle.std.proofs.Common.{◌*◌, ◌+◌, ◌∙◌, ap, ℕ, ◌++◌, arith}
use Rattle.pg_script.specs.Generated.{update_line}
use Rattle.pg_script.proofs.GeneratedLaws.{one_more, none_yet}
use Rattle.pg_script.proofs.generated.push_updates.Goals as goal

pub loop-place-preserved : goal.loop-place-preserved
loop-place-preserved c =
    let i = c.loop-place.invariant in
    let e = c.in_ok-push_update.ensures in
    record {
      text = one_more (update_line c.args.draws.now.seed c.args.persons) c.loop-place.place c.args.out.now c.loop-place.out c.push_update.new.out i.text
          (e.text ∙ ap (λ (s : ℕ). c.loop-place.out ++ update_line s c.args.persons c.loop-place.place) i.seed);
      seed = c.push_update.ensures.seed ∙ i.seed;
      drawn = e.made;
    }
