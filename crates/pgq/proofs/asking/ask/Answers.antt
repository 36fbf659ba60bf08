use Rattle.pgq.proofs.Statements.Queries.{faulty_ok}
use Rattle.pgq.proofs.asking.ask.Goals as goal

pub returns-in-Err : goal.returns-in-Err
returns-in-Err c = faulty_ok c.args.engine.now c.args.query.now c.args.section c.in-Err.fault c.query_refusal.result c.told.result c.in-Err.ensures.fault c.query_refusal.ensures c.told.ensures.told
