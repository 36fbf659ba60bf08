use Rattle.std.proofs.Common.{ap, sym, ◌∙◌}
use Rattle.std.specs.Prelude.{slice_get}
use Rattle.std.specs.Option.{option_copied, unwrap_or}
use Rattle.pg_value.specs.declared.value.Value.TheVariants.{Null}
use Rattle.pg_expr.proofs.Properties.{property_read}
use Rattle.pg_expr.proofs.view.BoundInReferences.property.Goals as goal

pub returns : goal.returns
returns g c =
    ap (λ found. unwrap_or found Null) (c.get-2.ensures.value ∙ ap (λ values. slice_get values c.in_ok-place.place) c.get.ensures)
    ∙ property_read (g.V.View.tables c.args.self.now.view.now) c.args.elem.now c.args.columns.now c.in_ok-place.place c.in_ok-row.row.now (sym c.place_in.ensures ∙ c.in_ok-place.was)
    (sym c.row.ensures.value ∙ ap option_copied c.in_ok-row.was)
