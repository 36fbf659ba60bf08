use Rattle.std.proofs.Common.{◌++◌, map, ap, sym, ◌∙◌}
use Rattle.std.proofs.lemmas.List.{append-nil}
use Rattle.pg_write.specs.HeldRows.{all_stored}
use Rattle.pg_stepper.proofs.Rows.{of_table, all_of_table}
use Rattle.pg_stepper.proofs.tables.SnapshotRowsTableRows.rows.Goals as goal

pub returns : goal.returns
returns c =
    sym (append-nil (all_stored c.loop-held.out.items)) ∙ (ap (λ xs. all_stored c.loop-held.out.items ++ map (of_table c.args.table) xs) (sym c.in_default.ensures.0)
    ∙ (c.loop-held.invariant ∙ all_of_table c.args.table c.args.self.now))
