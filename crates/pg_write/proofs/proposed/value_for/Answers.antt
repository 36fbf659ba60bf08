use Rattle.std.proofs.Common.{◌≡◌, IfOk, ap, sym, subst, ◌∙◌}
use Rattle.std.specs.Option.{option_copied}
use Rattle.pg_meaning.specs.CExprs.{ctree_of}
use Rattle.pg_meaning.specs.Meaning.{value_of, OfRow}
use Rattle.pg_expr.specs.Conditions.{IsCheckedForRow}
use Rattle.pg_write.specs.JudgedRows.{no_values}
use Rattle.pg_write.proofs.ProposedLaws.{expr_one, given_some, given_none}
use Rattle.pg_write.proofs.proposed.value_for.Goals as goal

pub eval_row-requires : goal.eval_row-requires
eval_row-requires c = subst (λ r. IsCheckedForRow r c.in-Some.expr.now) (sym c.requires.nothing)
    (expr_one (IsCheckedForRow no_values) c.args.columns.now c.args.tuple.now c.args.column c.in-Some.expr.now c.requires.checked (sym c.expr_for.ensures ∙ ap option_copied c.in-Some.is))

pub returns-in-Some : goal.returns-in-Some
returns-in-Some c = subst (λ x. IfOk c.eval_row.result (λ v. v ≡ x))
    (ap (λ r. value_of (ctree_of c.in-Some.expr.now) (OfRow r)) c.requires.nothing
    ∙ sym (given_some c.args.columns.now c.args.tuple.now c.args.column c.in-Some.expr.now (sym c.expr_for.ensures ∙ ap option_copied c.in-Some.is)))
    c.eval_row.ensures

pub returns-in-None : goal.returns-in-None
returns-in-None c = sym (given_none c.args.columns.now c.args.tuple.now c.args.column (sym c.expr_for.ensures ∙ ap option_copied c.in-None.is))
