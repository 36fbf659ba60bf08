use Rattle.std.proofs.Common.{◌≡◌, ◌∙◌, map, ap, subst, IfOk}
use Rattle.pg_catalog.specs.PropertyRows.{row_view}
use Rattle.pg_catalog.proofs.Agreement.{clash_is}
use Rattle.pg_catalog.proofs.graph.property_kinds.clash.Goals as goal

pub returns : goal.returns
returns c = subst (λ a. IfOk c.clash_rows.result (λ b. b ≡ a))
    (clash_is c.args.e.now c.args.f.now (map row_view c.deref.result.now) (map row_view c.deref-2.result.now)
    (ap (map row_view) c.deref.ensures.value ∙ c.in_ok-first.ensures) (ap (map row_view) c.deref-2.ensures.value ∙ c.in_ok-second.ensures))
    c.clash_rows.ensures
