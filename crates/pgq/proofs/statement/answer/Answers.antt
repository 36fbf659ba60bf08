use Rattle.pgq.proofs.Statements.Outcomes.{part_ok}
use Rattle.pgq.proofs.Statements.Changes.{written_parsed}
use Rattle.pgq.proofs.statement.answer.Goals as goal

pub returns-clause-answers : goal.returns-clause-answers
returns-clause-answers c = part_ok c.args.script.now c.args.section c.args.from c.args.to c.args.engine.now c.answer_parsed.new.engine c.in_ok-parsed.parsed c.answer_parsed.result c.in_ok-parsed.ensures c.answer_parsed.ensures.answers

pub answer_parsed-requires-clause-written : goal.answer_parsed-requires-clause-written
answer_parsed-requires-clause-written c = written_parsed c.written_statements.ensures.statements c.args.script.now.text c.args.from c.args.to c.in_ok-parsed.parsed c.in_ok-parsed.ensures
