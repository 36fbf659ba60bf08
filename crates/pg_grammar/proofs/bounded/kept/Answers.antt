-- One more digit.
use Rattle.std.proofs.Common.{◌≡◌, ℕ, suc, ◌+◌, ◌*◌, ◌-◌, ◌≤◌, ◌∷◌, drop, get_or, sym, ap, subst, ◌∙◌, arith}
use Rattle.std.specs.Prelude.{min}
use Rattle.std.proofs.Math.Nat.{min-le_right}
use Rattle.std.proofs.Math.Seq.{drop-cons}
use Rattle.pg_ast.specs.Grammar.Exprs.{number_after}
use Rattle.pg_grammar.proofs.Numbers.{keeps}
use Rattle.pg_grammar.proofs.bounded.kept.Goals as goal

pub loop-digit-preserved : goal.loop-digit-preserved
loop-digit-preserved c =
    let ds = c.args.digits.now in
    let i = c.loop-digit.digit-index in
    let n = c.loop-digit.number in
    let rest = drop (i + 1) ds in
    let next = 10 * n + (get_or ds i 0 - 48) in
    let step : suc i ≡ i + 1 = omega arith in
    let cons = drop-cons ds i 0 c.loop-digit-test.true ∙ ap (λ k. get_or ds i 0 ∷ drop k ds) step in
    record {
      same =
          c.loop-digit.invariant.same
          ∙ ap (λ l. min (number_after n l) 4294967295) cons
          ∙ sym (keeps next rest)
          ∙ ap (λ m. min (number_after m rest) 4294967295) (sym c.with_digit-number.ensures);
      small = subst (λ m. m ≤ 4294967295) (sym c.with_digit-number.ensures) (min-le_right next 4294967295);
    }
