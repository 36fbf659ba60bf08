-- A list that is not read.
use Rattle.std.proofs.Common.{rules, arith}
use Rattle.std.proofs.lemmas.Grind.{common_steps}
use Rattle.pg_grammar.proofs.list.listed.Goals as goal

pub returns-in_err-found : goal.returns-in_err-found
returns-in_err-found g c = λ p h.
    let e = c.in_err-found.ensures p h in
    first_of (search rules, grind (arith, common_steps))
