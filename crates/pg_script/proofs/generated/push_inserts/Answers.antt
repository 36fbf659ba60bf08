use Rattle.std.proofs.Common.{◌*◌, ◌+◌, ◌<◌, ◌∙◌, ap, ℕ, ◌++◌, arith}
use Rattle.pg_script.specs.Generated.{insert_line}
use Rattle.pg_script.proofs.GeneratedLaws.{one_more, next_draws}
use Rattle.pg_script.proofs.generated.push_inserts.Goals as goal

pub loop-place-preserved : goal.loop-place-preserved
loop-place-preserved c =
    let i = c.loop-place.invariant in
    let e = c.in_ok-push_insert.ensures in
    let less : 100 * c.loop-place.place < c.args.count = omega (arith, c.loop-place-test.true, c.div_ceil-place-end.ensures, c.loop-place.auto.place-end) in
    record {
      text = one_more (insert_line c.args.draws.now.seed c.args.persons c.args.filled c.args.count) c.loop-place.place c.args.out.now c.loop-place.out c.push_insert.new.out i.text
          (e.text ∙ ap (λ (s : ℕ). c.loop-place.out ++ insert_line s c.args.persons c.args.filled c.args.count c.loop-place.place) i.seed);
      seed = c.push_insert.ensures.seed ∙ i.seed;
      drawn = e.made ∙ next_draws c.args.filled c.args.count c.loop-place.place less;
    }
