use Rattle.std.proofs.Common.{◌≡◌, subst, List, IfOk}
use Rattle.pg_meaning.specs.declared.checked.CheckedColumn.{CheckedColumn}
use Rattle.pg_check.proofs.BuiltLaws.{columns_alike}
use Rattle.pg_check.proofs.query.columns_over.Goals as goal

pub returns : goal.returns
returns c = let d = c.args.catalog.now in
    subst (λ (cs : List CheckedColumn). IfOk c.checked_columns-columns.result (λ r. r ≡ cs)) (columns_alike d c.args.graph c.args.variables.now c.in_ok-kinds.kinds c.args.items.now c.in_ok-kinds.ensures) c.checked_columns-columns.ensures
