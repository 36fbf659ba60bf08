use Rattle.std.proofs.Common.{ap, subst}
use Rattle.std.specs.Prelude.{is_some}
use Rattle.pg_rules.specs.Changes.{change_of}
use Rattle.pg_rules.specs.Written.{IsWritten}
use Rattle.pg_language.specs.Language.{says}
use Rattle.pgq.proofs.Statements.Changes.{carried}
use Rattle.pgq.proofs.Statements.Outcomes.{not_run}
use Rattle.pgq.proofs.statement.carry_out.Goals as goal

pub returns-in-Begin-clause-answers : goal.returns-in-Begin-clause-answers
returns-in-Begin-clause-answers c = not_run c.args.section c.args.engine.now (says c.args.at c.args.tree.now) c.args.at c.not_yet.result (ap (says c.args.at) c.in-Begin.is) c.not_yet.ensures

pub returns-in-Commit-clause-answers : goal.returns-in-Commit-clause-answers
returns-in-Commit-clause-answers c = not_run c.args.section c.args.engine.now (says c.args.at c.args.tree.now) c.args.at c.not_yet-in-Commit.result (ap (says c.args.at) c.in-Commit.is) c.not_yet-in-Commit.ensures

pub returns-in-Rollback-clause-answers : goal.returns-in-Rollback-clause-answers
returns-in-Rollback-clause-answers c = not_run c.args.section c.args.engine.now (says c.args.at c.args.tree.now) c.args.at c.not_yet-in-Rollback.result (ap (says c.args.at) c.in-Rollback.is) c.not_yet-in-Rollback.ensures

pub returns-in-Insert-clause-answers : goal.returns-in-Insert-clause-answers
returns-in-Insert-clause-answers c = carried c.args.at c.args.section c.args.tree.now c.args.engine.now c.change.new.engine c.change.result (ap (λ s. is_some (change_of s)) c.in-Insert.is) c.change.ensures.answers

pub returns-in-Update-clause-answers : goal.returns-in-Update-clause-answers
returns-in-Update-clause-answers c = carried c.args.at c.args.section c.args.tree.now c.args.engine.now c.change-in-Update.new.engine c.change-in-Update.result (ap (λ s. is_some (change_of s)) c.in-Update.is) c.change-in-Update.ensures.answers

pub returns-in-Delete-clause-answers : goal.returns-in-Delete-clause-answers
returns-in-Delete-clause-answers c = carried c.args.at c.args.section c.args.tree.now c.args.engine.now c.change-in-Delete.new.engine c.change-in-Delete.result (ap (λ s. is_some (change_of s)) c.in-Delete.is) c.change-in-Delete.ensures.answers

pub change-requires-clause-change : goal.change-requires-clause-change
change-requires-clause-change c = ap (λ s. is_some (change_of s)) c.in-Insert.is

pub change-requires-in-Update-clause-change : goal.change-requires-in-Update-clause-change
change-requires-in-Update-clause-change c = ap (λ s. is_some (change_of s)) c.in-Update.is

pub change-requires-in-Delete-clause-change : goal.change-requires-in-Delete-clause-change
change-requires-in-Delete-clause-change c = ap (λ s. is_some (change_of s)) c.in-Delete.is

pub ask-requires-clause-written : goal.ask-requires-clause-written
ask-requires-clause-written c = subst IsWritten c.in-Query.is c.requires.written
