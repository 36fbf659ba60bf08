use Rattle.std.proofs.Common.{rules, ◌<◌, ◌^◌, unsigned_abs, sym, ◌∙◌}
use Rattle.pg_tests.proofs.Literals.{short, no_number}
use Rattle.pg_tests.proofs.expressions.is_short.Goals as goal

pub returns-in-Some : goal.returns-in-Some
returns-in-Some c = λ holds.
    let told = c.is_short_number.ensures holds in
    let less : unsigned_abs c.in-Some.n < 2 ^ 63 = search (rules, told) in
    short c.args.value.now c.in-Some.n (sym c.number_in.ensures ∙ c.in-Some.is) less

pub returns-in-None : goal.returns-in-None
returns-in-None c = λ holds. no_number c.args.value.now (sym c.number_in.ensures ∙ c.in-None.is)
