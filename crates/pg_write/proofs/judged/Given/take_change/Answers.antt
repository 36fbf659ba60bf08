use Rattle.std.proofs.Common.{sym, subst}
use Rattle.pg_keyed.specs.Lists.{Each}
use Rattle.pg_meaning.specs.Sound.Changes.{IsSoundFor}
use Rattle.pg_expr.specs.Conditions.{IsCheckedForRow}
use Rattle.pg_write.specs.JudgedRows.{no_values}
use Rattle.pg_write.proofs.CheckedLaws.{tuples_checked, rows_checked}
use Rattle.pg_write.proofs.judged.Given.take_change.Goals as goal

pub take_tuples-requires-clause-checked : goal.take_tuples-requires-clause-checked
take_tuples-requires-clause-checked g c = subst (Each (Each (IsCheckedForRow no_values))) (sym c.as_slice-in-Insert.ensures)
    (tuples_checked c.args.self.now.shape.now c.in-Insert.columns c.in-Insert.tuples (subst (IsSoundFor c.args.self.now.shape.now) c.in-Insert.is c.requires.sound))

pub take_stored-requires-clause-checked : goal.take_stored-requires-clause-checked
take_stored-requires-clause-checked g c = rows_checked c.args.self.now.table c.args.self.now.shape.now (g.T.TableRows.tables c.args.self.now.tables.now) c.args.change.now c.requires.sound c.requires.stored
