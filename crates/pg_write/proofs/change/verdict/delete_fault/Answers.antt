use Rattle.std.proofs.Common.{ap, sym, ◌∙◌}
use Rattle.pg_rules.specs.Catalog.LookUps.{table_in}
use Rattle.pg_write.specs.ChangeVerdict.{delete_over}
use Rattle.pg_write.proofs.VerdictLaws.{delete_same, stands}
use Rattle.pg_write.proofs.change.verdict.delete_fault.Goals as goal

pub returns : goal.returns
returns c = let x = c.args.delete.now in
    c.delete_fault_over.ensures
    ∙ ap (λ columns. delete_over columns x) c.columns_of.ensures.columns
    ∙ sym (delete_same c.args.catalog.now.0 x (stands (table_in c.args.catalog.now.0 x.table.text) c.table.result c.is_none.result c.table.ensures c.is_none.ensures c.if-is_none.false))
