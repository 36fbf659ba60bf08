use Rattle.std.proofs.Common.{◌∙◌, ap, sym, is_some}
use Rattle.pg_snap.proofs.StepLaws.{named_said}
use Rattle.pg_snap.proofs.reached.is_named.Goals as goal

pub returns-in-Absent-clause-value : goal.returns-in-Absent-clause-value
returns-in-Absent-clause-value g c = sym (named_said c.args.table c.args.key.now.values c.args.run.now ∙ ap is_some (sym c.in-Absent.ensures.value))

pub returns-in-Gone-clause-value : goal.returns-in-Gone-clause-value
returns-in-Gone-clause-value g c = sym (named_said c.args.table c.args.key.now.values c.args.run.now ∙ ap is_some (sym c.in-Gone.ensures.value))

pub returns-in-Row-clause-value : goal.returns-in-Row-clause-value
returns-in-Row-clause-value g c = sym (named_said c.args.table c.args.key.now.values c.args.run.now ∙ ap is_some (sym c.in-Row.ensures.value))
