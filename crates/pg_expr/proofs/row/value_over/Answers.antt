use Rattle.pg_expr.proofs.Narrowness.{row_evaluable}
use Rattle.pg_expr.proofs.row.value_over.Goals as goal

pub value-requires : goal.value-requires
value-requires c = record { evaluable = row_evaluable c.values_within_widths.ensures c.value_by_variables.ensures c.args.row.now c.args.expr.now c.requires; choice = tt }
