use Rattle.std.proofs.Common.{◌∙◌, sym, subst}
use Rattle.pg_lex.proofs.PlainLaws.{IsFound, plain_found, plain_closed}
use Rattle.pg_lex.proofs.front.unquoted.Goals as goal

pub returns-in-Some : goal.returns-in-Some
returns-in-Some c = subst (IsFound c.args.bytes.now) (sym (c.in_ok-kind.ensures) ∙ c.in-Some.is) (plain_found c.args.bytes.now c.requires)

pub returns-in-None : goal.returns-in-None
returns-in-None c =
    (subst (IsFound c.args.bytes.now) (sym (c.in_ok-kind.ensures) ∙ c.in-None.is) (plain_found c.args.bytes.now c.requires), plain_closed c.args.bytes.now c.requires)
