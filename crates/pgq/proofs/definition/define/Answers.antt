use Rattle.std.proofs.Common.{refl, ap, arith}
use Rattle.pgq.proofs.Statements.Outcomes.{in_session_is}
use Rattle.pgq.proofs.Statements.Definitions.{ready_ok, answers_ok, faulty_ok}
use Rattle.pgq.proofs.definition.define.Goals as goal

pub returns-then-section-ne0-clause-answers : goal.returns-then-section-ne0-clause-answers
returns-then-section-ne0-clause-answers c script item r = in_session_is script c.args.section c.args.engine.now item c.args.definition.now c.args.at r c.if-section-ne0.true

pub returns-in-Ok-clause-ready : goal.returns-in-Ok-clause-ready
returns-in-Ok-clause-ready c = ready_ok c.args.definition.now c.args.engine.now (record c.args.engine.now { catalog = c.define.new.self }) c.finish_definition.new.engine c.finish_definition.result
    (record { right = c.in-Ok.ensures.ok; catalog = c.in-Ok.ensures.defined; tables = refl; log = refl; held_all = refl; peak = refl }) c.requires c.finish_definition.ensures.engine

pub returns-in-Ok-clause-answers : goal.returns-in-Ok-clause-answers
returns-in-Ok-clause-answers c = answers_ok c.args.definition.now c.args.engine.now (record c.args.engine.now { catalog = c.define.new.self }) c.finish_definition.new.engine c.args.at c.args.section c.finish_definition.result
    (record { right = c.in-Ok.ensures.ok; catalog = c.in-Ok.ensures.defined; tables = refl; log = refl; held_all = refl; peak = refl }) (omega (arith, c.if-section-ne0.false)) c.finish_definition.ensures.engine c.finish_definition.ensures.outcome

pub returns-in-Err-clause-answers : goal.returns-in-Err-clause-answers
returns-in-Err-clause-answers c = faulty_ok c.args.definition.now c.args.engine.now (record c.args.engine.now { catalog = c.define.new.self }) c.args.at c.args.section c.in-Err.fault c.define_refusal.result c.told.result
    (ap (λ k. record c.args.engine.now { catalog = k }) c.in-Err.ensures.unchanged) (omega (arith, c.if-section-ne0.false)) c.in-Err.ensures.fault c.define_refusal.ensures c.told.ensures.told
