use Rattle.std.proofs.Common.{◌≡◌, ◌∙◌, take, drop, sym, ap, subst}
use Rattle.std.specs.Prelude.{codes}
use Rattle.pg_script.specs.Layout.{SaysSession}
use Rattle.pg_script.specs.Passes.{name_len}
use Rattle.pg_script.proofs.Passes.SectionLines.{says_is, says_not, session_is, session_not}
use Rattle.pg_script.proofs.header.header.Goals as goal

pub returns-then-says-clause-is : goal.returns-then-says-clause-is
returns-then-says-clause-is c = says_is (codes "@setup") c.args.line.now (sym c.says.ensures ∙ c.if-says.true)

pub returns-then-says-2-clause-is : goal.returns-then-says-2-clause-is
returns-then-says-2-clause-is c = says_is (codes "@order") c.args.line.now (sym c.says-else-says.ensures ∙ c.if-says-2.true)

pub returns-then-says_session-clause-is : goal.returns-then-says_session-clause-is
returns-then-says_session-clause-is c =
    let len : c.name_len.result ≡ name_len (drop 9 c.args.line.now) = c.name_len.ensures.value ∙ ap name_len c.split_at.ensures.back in
    subst (λ n. SaysSession (take n (drop 9 c.args.line.now)) c.args.line.now) (sym len) (session_is c.args.line.now (sym c.says_session.ensures ∙ c.if-says_session.true))

pub returns-else-says_session-clause-is : goal.returns-else-says_session-clause-is
returns-else-says_session-clause-is c = (
  says_not (codes "@setup") c.args.line.now (sym c.says.ensures ∙ c.if-says.false),
  says_not (codes "@order") c.args.line.now (sym c.says-else-says.ensures ∙ c.if-says-2.false),
  session_not c.args.line.now (sym c.says_session.ensures ∙ c.if-says_session.false),
)
