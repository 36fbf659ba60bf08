use Rattle.std.proofs.Common.{ap, ◌∙◌}
use Rattle.std.specs.Prelude.{slice_get}
use Rattle.std.specs.Option.{unwrap_or}
use Rattle.std.proofs.lemmas.Option.{unwrap_or-slice_get}
use Rattle.pg_value.specs.declared.value.Value.TheVariants.{Null}
use Rattle.pg_expr.proofs.row.RowReferences.column.Goals as goal

pub returns : goal.returns
returns c = ap (λ found. unwrap_or found Null) (c.get-2.ensures.value ∙ ap (λ values. slice_get values c.args.place) c.get.ensures) ∙ unwrap_or-slice_get c.args.self.now.values c.args.place Null
