use Rattle.std.proofs.Common.{length, sym, ap, ◌∙◌}
use Rattle.std.specs.Prelude.{is_some}
use Rattle.std.proofs.lemmas.Bool.{ltb-false}
use Rattle.pg_write.proofs.Columns.{run_out}
use Rattle.pg_write.proofs.column.column_fault_in.Goals as goal

pub returns-in_default : goal.returns-in_default
returns-in_default c = sym (c.loop-i.invariant ∙ run_out c.args.shape.now c.loop-i.i c.args.columns.now c.args.row.now (ltb-false c.loop-i.i (length c.args.row.now) (sym c.get.ensures.lookup.0 ∙ ap is_some c.in_default.is)))
