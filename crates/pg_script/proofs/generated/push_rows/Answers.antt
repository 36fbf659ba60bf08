use Rattle.std.proofs.Common.{◌*◌, ◌+◌, ◌∙◌, ap, ℕ, ◌++◌, arith}
use Rattle.pg_script.specs.Generated.{further_row, draws_before}
use Rattle.pg_script.proofs.GeneratedLaws.{one_more}
use Rattle.pg_script.proofs.generated.push_rows.Goals as goal

pub loop-k-preserved : goal.loop-k-preserved
loop-k-preserved c =
    let i = c.loop-k.invariant in
    let e = c.in_ok-push_further.ensures in
    record {
      text = one_more (λ (k : ℕ). further_row c.args.draws.now.seed c.args.persons c.args.filled (c.args.first + 1 + k)) c.loop-k.k c.push_row.new.out c.loop-k.out c.push_further.new.out i.text
          (e.text ∙ ap (λ (s : ℕ). c.loop-k.out ++ further_row s c.args.persons c.args.filled (c.args.first + 1 + c.loop-k.k)) i.seed);
      seed = c.push_further.ensures.seed ∙ i.seed;
      drawn = e.made ∙ ap (draws_before c.args.filled) (omega arith);
    }
