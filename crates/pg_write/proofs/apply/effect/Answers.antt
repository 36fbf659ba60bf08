use Rattle.std.proofs.Common.{sym, subst}
use Rattle.pg_write.specs.JudgedRows.{so_far}
use Rattle.pg_write.specs.ChangeEffects.{Refuses}
use Rattle.pg_write.proofs.ApplyLaws.{does, refuses}
use Rattle.pg_write.proofs.apply.effect.Goals as goal

pub returns-in-Ok-put_made-clause-done : goal.returns-in-Ok-put_made-clause-done
returns-in-Ok-put_made-clause-done g c = does c.args.shapes.now (g.T.TableRows.tables c.args.tables.now) c.args.writes c.args.change.now c.args.limit c.judge_change.ensures.in_order c.requires.limit
    (so_far c.in-Ok.so_far) c.in-Ok-put_made.writes c.in-Ok.ensures.judged c.in-Ok-put_made.ensures.list c.in-Ok-put_made.ensures.limit

pub returns-in-Err-clause-refused : goal.returns-in-Err-clause-refused
returns-in-Err-clause-refused g c = subst (Refuses c.args.shapes.now (g.T.TableRows.tables c.args.tables.now) c.args.writes c.args.change.now) (sym c.refused.ensures)
    (refuses c.args.shapes.now (g.T.TableRows.tables c.args.tables.now) c.args.writes c.args.change.now c.args.limit c.judge_change.ensures.in_order c.requires.limit c.in-Err.fault c.in-Err.ensures.fault)
