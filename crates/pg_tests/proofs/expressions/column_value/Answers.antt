use Rattle.std.proofs.Common.{ap, ◌∙◌, ◌++◌, ◌∷◌, []}
use Rattle.pg_value.specs.declared.value.Value.TheVariants.{Text}
use Rattle.pg_tests.proofs.Literals.{column_checked}
use Rattle.pg_tests.proofs.expressions.column_value.Goals as goal

pub eval_row-requires : goal.eval_row-requires
eval_row-requires c = column_checked c.args.text c.in_ok-row.row (c.in_ok-row.ensures ∙ c.in_ok-push.ensures.ok ∙ ap (λ xs. xs ++ Text c.args.text ∷ []) c.new-values.ensures)
