use Rattle.std.proofs.Common.{◌≡◌, ◌∙◌, subst, ℕ, List, Option, IfOk}
use Rattle.pg_check.proofs.ColumnLaws.{looked_up}
use Rattle.pg_check.proofs.column_places.ColumnPlaces.places_of.Goals as goal

pub returns-in-Some : goal.returns-in-Some
returns-in-Some c = subst (λ (cs : List (Option ℕ)). IfOk c.copy_places.result (λ r. r ≡ cs)) (c.as_slice.ensures ∙ looked_up c.args.catalog.now c.args.graph c.args.self.now c.args.name.now.text c.in-Some.places.now c.requires c.in-Some.ensures) c.copy_places.ensures
