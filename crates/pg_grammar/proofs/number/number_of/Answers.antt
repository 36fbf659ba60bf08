-- A number that is too great.
use Rattle.std.proofs.Common.{◌≡◌, suc, ◌+◌, ◌*◌, ◌-◌, drop, get_or, sym, ap, ◌∙◌}
use Rattle.std.proofs.Math.Seq.{drop-cons}
use Rattle.std.specs.Prelude.{None}
use Rattle.pg_ast.specs.Grammar.Exprs.{number_after}
use Rattle.pg_grammar.specs.Numbers.{fitting}
use Rattle.pg_grammar.proofs.Numbers.{stays_great}
use Rattle.pg_grammar.proofs.number.number_of.Goals as goal

pub returns-in-None : goal.returns-in-None
returns-in-None c =
    let ds = c.args.digits.now in
    let i = c.loop-digit.digit-index in
    let n = c.loop-digit.number in
    let rest = drop-cons ds i 0 c.loop-digit-test.true in
    let e : fitting (10 * n + (get_or ds i 0 - 48)) ≡ None = sym c.with_digit.ensures ∙ c.in-None.is in
    sym (ap fitting (c.loop-digit.invariant.same ∙ ap (number_after n) rest) ∙ stays_great (10 * n + (get_or ds i 0 - 48)) (drop (suc i) ds) e)
