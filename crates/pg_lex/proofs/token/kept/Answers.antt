use Rattle.std.proofs.Common.{◌+◌, ◌*◌, ◌-◌, ◌≤◌, drop, get_or, sym, ap, subst, ◌∙◌}
use Rattle.std.specs.Prelude.{min}
use Rattle.std.proofs.Math.Nat.{min-le_right}
use Rattle.std.proofs.lemmas.List.{at_drop_more}
use Rattle.pg_lex.specs.Texts.{number_after}
use Rattle.pg_lex.proofs.Numbers.{kept-after}
use Rattle.pg_lex.proofs.token.kept.Goals as goal

pub loop-digit-preserved : goal.loop-digit-preserved
loop-digit-preserved c =
    let at = c.loop-digit in
    let ds = c.args.digits.now in
    let rest = drop (at.digit-index + 1) ds in
    let next = 10 * at.number + (get_or ds at.digit-index 0 - 48) in
    record {
      same =
          at.invariant.same
          ∙ at_drop_more (λ l. min (number_after at.number l) 4294967295) ds at.digit-index 0 c.loop-digit-test.true
          ∙ sym (kept-after 4294967295 next rest)
          ∙ ap (λ k. min (number_after k rest) 4294967295) (sym c.with_digit-number.ensures);
      small = subst (λ m. m ≤ 4294967295) (sym c.with_digit-number.ensures) (min-le_right next 4294967295);
    }
