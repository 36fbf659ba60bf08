use Rattle.std.proofs.Common.{◌≡◌, ◌<◌, length, sym, subst, IfOk}
use Rattle.pg_keyed.specs.Keyed.{Each}
use Rattle.pg_script.specs.Judged.{refused}
use Rattle.pg_language.specs.Language.{refusal_of}
use Rattle.pgq.specs.Changes.{IsRefused}
use Rattle.pgq.specs.Commits.{IsTo}
use Rattle.pgq.proofs.Statements.Changes.{table_stands, written_to, alike, fits, ended_ok, refused_ok}
use Rattle.pgq.proofs.change.make.Goals as goal

pub commit-requires-clause-table : goal.commit-requires-clause-table
commit-requires-clause-table c = subst (λ t. t.0 < length c.args.engine.now.tables.items) (sym c.table_of-table.ensures) (table_stands c.args.engine.now c.args.change.now c.requires.ready c.requires.sound)

pub commit-requires-clause-own : goal.commit-requires-clause-own
commit-requires-clause-own c = subst (λ t. Each (IsTo t) c.in-Ok.writes.list) (sym c.table_of-table.ensures) (written_to c.args.engine.now c.args.change.now c.requires.ready c.in-Ok.writes c.in-Ok.rows c.in-Ok.ensures.made)

pub commit-requires-clause-alike : goal.commit-requires-clause-alike
commit-requires-clause-alike c = alike c.args.engine.now c.args.change.now c.requires.ready c.in-Ok.writes c.in-Ok.rows c.in-Ok.ensures.made

pub commit-requires-clause-fits : goal.commit-requires-clause-fits
commit-requires-clause-fits c = fits c.args.engine.now c.args.change.now c.requires.ready c.in-Ok.writes c.in-Ok.rows c.in-Ok.ensures.made c.effects_fit.ensures c.requires.sound

pub returns-in-Ok-clause-answers : goal.returns-in-Ok-clause-answers
returns-in-Ok-clause-answers c k is = ended_ok c.args.engine.now c.args.change.now c.requires.ready c.in-Ok.writes c.in-Ok.rows c.in-Ok.ensures.made k is c.writes_stay_in_order.ensures
    (fits c.args.engine.now c.args.change.now c.requires.ready c.in-Ok.writes c.in-Ok.rows c.in-Ok.ensures.made c.effects_fit.ensures c.requires.sound) c.args.section c.commit.new.engine c.commit.result c.commit.ensures.ended

pub returns-in-Err-Row-clause-answers : goal.returns-in-Err-Row-clause-answers
returns-in-Err-Row-clause-answers c k is = refused_ok c.args.engine.now c.args.change.now c.requires.ready c.in-Err-Row.row c.in-Err-Row.fault _
    (subst (IsRefused c.args.engine.now c.args.change.now) c.in-Err-Row.field-0-is c.in-Err-Row.ensures.refused) k is c.args.section c.row_refusal.result
    (subst (λ t. IfOk c.row_refusal.result (λ o. o ≡ refused (refusal_of c.args.engine.now.catalog t c.in-Err-Row.row c.in-Err-Row.fault) (length c.args.engine.now.log))) c.table_of-table.ensures c.row_refusal.ensures)
