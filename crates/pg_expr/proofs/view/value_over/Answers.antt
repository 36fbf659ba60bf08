use Rattle.pg_expr.proofs.Narrowness.{bound_evaluable}
use Rattle.pg_expr.proofs.view.value_over.Goals as goal

pub value-requires-clause-evaluable : goal.value-requires-clause-evaluable
value-requires-clause-evaluable g c =
    bound_evaluable c.values_within_widths.ensures c.value_by_variables.ensures (g.V.View.shapes c.args.over.now.view.now) (g.V.View.tables c.args.over.now.view.now) c.args.over.now.bound.now c.args.expr.now
    c.well_made.ensures.tables c.requires
