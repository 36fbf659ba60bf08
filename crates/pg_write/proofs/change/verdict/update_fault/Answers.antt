use Rattle.std.proofs.Common.{◌≡◌, ap, sym, ◌∙◌, subst, IfOk}
use Rattle.pg_rules.specs.Catalog.LookUps.{table_in, columns_named}
use Rattle.pg_write.specs.ChangeVerdict.{update_over}
use Rattle.pg_write.proofs.VerdictLaws.{update_same, stands}
use Rattle.pg_write.proofs.change.verdict.update_fault.Goals as goal

pub returns : goal.returns
returns c = let u = c.args.update.now in
    subst (λ f. IfOk c.update_fault_over.result (λ r. r ≡ f))
    (ap (λ columns. update_over columns c.key_of-key.result.now u) c.columns_of-columns.ensures.columns
    ∙ ap (λ key. update_over (columns_named c.args.catalog.now.0 u.table.text) key u) c.key_of-key.ensures
    ∙ sym (update_same c.args.catalog.now.0 u (stands (table_in c.args.catalog.now.0 u.table.text) c.table.result c.is_none.result c.table.ensures c.is_none.ensures c.if-is_none.false)))
    c.update_fault_over.ensures
