use Rattle.std.proofs.Common.{◌≡◌, ap, sym, ◌∙◌, subst, IfOk}
use Rattle.pg_rules.specs.Catalog.LookUps.{table_in}
use Rattle.pg_write.specs.ChangeVerdict.{insert_over}
use Rattle.pg_write.proofs.VerdictLaws.{insert_same, stands}
use Rattle.pg_write.proofs.change.verdict.insert_fault.Goals as goal

pub returns : goal.returns
returns c = let i = c.args.insert.now in
    subst (λ f. IfOk c.insert_fault_over.result (λ r. r ≡ f))
    (ap (λ columns. insert_over columns i) c.columns_of.ensures.columns
    ∙ sym (insert_same c.args.catalog.now.0 i (stands (table_in c.args.catalog.now.0 i.table.text) c.table.result c.is_none.result c.table.ensures c.is_none.ensures c.if-is_none.false)))
    c.insert_fault_over.ensures
