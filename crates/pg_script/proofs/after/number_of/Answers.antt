use Rattle.std.proofs.Common.{◌≡◌, ◌-◌, ◌+◌, ◌*◌, ◌^◌, get_or, refl, ap, ◌∙◌}
use Rattle.std.specs.Prelude.{min}
use Rattle.pg_script.proofs.Passes.After.{number_more}
use Rattle.pg_script.proofs.after.number_of.Goals as goal

pub loop-digit-preserved : goal.loop-digit-preserved
loop-digit-preserved c =
    let digits = c.args.digits.now in
    let i = c.loop-digit.digit-index in
    let d = get_or digits i 0 in
    let more : c.from.result ≡ d - 48 = c.from.ensures ∙ c.saturating_sub.ensures in
    let next : c.saturating_add-number.result ≡ min (min (c.loop-digit.number * 10) (2 ^ 32 - 1) + (d - 48)) (2 ^ 32 - 1) =
    c.saturating_add-number.ensures ∙ ap (λ n. min (n + c.from.result) (2 ^ 32 - 1)) c.saturating_mul.ensures ∙ ap (λ n. min (min (c.loop-digit.number * 10) (2 ^ 32 - 1) + n) (2 ^ 32 - 1)) more in
    number_more c.loop-digit.number c.saturating_add-number.result d i digits c.loop-digit.invariant c.loop-digit-test.true refl next
