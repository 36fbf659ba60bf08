use Rattle.std.proofs.Common.{subst}
use Rattle.pg_lex.specs.Front.{IsBody}
use Rattle.pg_lex.proofs.QuoteLaws.{literal_found, literal_open}
use Rattle.pg_lex.proofs.front.literal.Goals as goal

pub returns-in-Some : goal.returns-in-Some
returns-in-Some c = literal_found c.args.text.now c.in-Some.text c.in-Some.len (subst (IsBody 39 c.args.text.now) c.in-Some.is c.in_ok-text.ensures)

pub returns-in-None : goal.returns-in-None
returns-in-None c = literal_open c.args.text.now (subst (IsBody 39 c.args.text.now) c.in-None.is c.in_ok-text.ensures)
