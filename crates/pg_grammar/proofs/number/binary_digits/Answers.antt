-- Binary digits by leading zeros.
use Rattle.std.proofs.Common.{◌<◌, ◌^◌, rules, arith}
use Rattle.std.proofs.lemmas.Grind.{common_steps}
use Rattle.pg_grammar.proofs.Numbers.{digits-left}
use Rattle.pg_grammar.proofs.number.binary_digits.Goals as goal

pub returns : goal.returns
returns c =
    let fits : c.args.number < 2 ^ 128 = search rules in
    let e = digits-left c.args.number fits in
    first_of (search rules, grind (arith, common_steps))
