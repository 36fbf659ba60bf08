use Rattle.std.proofs.Common.{◌==◌, ap, sym, ◌∙◌}
use Rattle.std.specs.Option.{option_copied}
use Rattle.pg_expr.specs.Conditions.{IsCheckedForRow}
use Rattle.pg_write.proofs.ProposedLaws.{found_one}
use Rattle.pg_write.proofs.proposed.value_set.Goals as goal

pub eval_row-requires : goal.eval_row-requires
eval_row-requires c = found_one (λ s. IsCheckedForRow c.args.row.now s.value) (λ s. s.column == c.args.column) c.args.sets.now c.in-Some.set.now c.requires.checked (sym c.set_for.ensures ∙ ap option_copied c.in-Some.is)
