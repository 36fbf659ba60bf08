use Rattle.std.proofs.Common.{sym, ap, ◌∙◌}
use Rattle.pg_expr.proofs.Parts.{first_var, first_left, first_right}
use Rattle.pg_expr.proofs.evaluate.+variable.Goals as goal

pub returns-in-None : goal.returns-in-None
returns-in-None t c =
    let a = c.variable-in-Binary.ensures ∙ ap first_var c.get-in-Binary.ensures in
    let b = c.variable-in-None.ensures ∙ ap first_var c.get-in-None.ensures in
    b ∙ first_right c.args.expr.now c.in-Binary.op c.in-Binary.left c.in-Binary.right c.in-Binary.is (sym a ∙ c.in-None.is)

pub returns-in_default : goal.returns-in_default
returns-in_default t c =
    let a = c.variable-in-Binary.ensures ∙ ap first_var c.get-in-Binary.ensures in
    a ∙ first_left c.args.expr.now c.in-Binary.op c.in-Binary.left c.in-Binary.right c.in-Binary.is (λ h. c.in_default.not-None (a ∙ h))
