use Rattle.std.proofs.Common.{◌≡◌, ◌∙◌, true, sym, ap, subst, List, ℕ}
use Rattle.std.specs.Prelude.{MatchOption}
use Rattle.pg_script.specs.Passes.Drafts.{IsBadAfter, IsGoodItem}
use Rattle.pg_script.specs.After.{begins_after, IsAfter}
use Rattle.pg_script.specs.Passes.{parts_of, statement_at, cut}
use Rattle.pg_script.proofs.Passes.Items.{item_of_wait}
use Rattle.pg_script.proofs.items.item.Goals as goal

pub returns : goal.returns
returns c =
    let begins : begins_after (cut c.args.bytes.now c.args.span) ≡ true = ap begins_after (sym c.cut-statement.ensures) ∙ (sym c.begins_after.ensures ∙ c.if-not-begins_after.false) in
    item_of_wait (parts_of c.args.bytes.now c.args.before.now) c.args.in_session (statement_at c.args.bytes.now c.args.span) c.cut-statement.result.now c.in_ok-wait.wait.name.now c.in_ok-wait.wait.number c.wait_item.result
    c.cut-statement.ensures begins c.if-not-in_session.false c.in_ok-wait.ensures c.wait_item.ensures

pub returns-in_err-wait : goal.returns-in_err-wait
returns-in_err-wait c =
    let begins : begins_after (cut c.args.bytes.now c.args.span) ≡ true = ap begins_after (sym c.cut-statement.ensures) ∙ (sym c.begins_after.ensures ∙ c.if-not-begins_after.false) in
    subst (λ r. MatchOption r (IsBadAfter (parts_of c.args.bytes.now c.args.before.now) c.args.in_session (statement_at c.args.bytes.now c.args.span)) (IsGoodItem (parts_of c.args.bytes.now c.args.before.now) c.args.in_session (statement_at c.args.bytes.now c.args.span))) (sym c.from_residual.ensures)
    (begins, λ section n t a. c.in_err-wait.ensures a.name a.digits (subst (λ (x : List ℕ). IsAfter x a.name a.digits) (sym c.cut-statement.ensures) a.is))
