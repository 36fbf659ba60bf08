use Rattle.std.proofs.Common.{◌≡◌, ◌∙◌, map, ap, subst, IfOk}
use Rattle.pg_catalog.specs.PropertyRows.{row_view}
use Rattle.pg_catalog.proofs.Agreement.{columns_is}
use Rattle.pg_catalog.proofs.graph.label_agreement.two_columns.Goals as goal

pub returns : goal.returns
returns c = subst (λ a. IfOk c.two_columns_in.result (λ b. b ≡ a))
    (columns_is c.args.element.now (map row_view c.deref.result.now) (ap (map row_view) c.deref.ensures.value ∙ c.in_ok-rows.ensures))
    c.two_columns_in.ensures
