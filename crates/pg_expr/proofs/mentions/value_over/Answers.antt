use Rattle.pg_expr.proofs.Narrowness.{ones_evaluable}
use Rattle.pg_expr.proofs.mentions.value_over.Goals as goal

pub value-requires-clause-evaluable : goal.value-requires-clause-evaluable
value-requires-clause-evaluable g c =
    ones_evaluable c.values_within_widths.ensures c.value_by_variables.ensures (g.V.View.shapes c.args.over.now.view.now) (g.V.View.tables c.args.over.now.view.now) c.args.over.now.mentions.now c.args.expr.now
    c.well_made.ensures.tables c.requires
