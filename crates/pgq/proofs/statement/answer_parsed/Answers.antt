use Rattle.std.proofs.Common.{ap, refl}
use Rattle.pg_script.specs.declared.outcome.FaultKind.TheVariants.{Syntax}
use Rattle.pg_script.specs.declared.outcome.Outcome.TheVariants.{AtByte}
use Rattle.pg_language.specs.Language.{reading_of}
use Rattle.pgq.proofs.Statements.Outcomes.{not_read}
use Rattle.pgq.proofs.statement.answer_parsed.Goals as goal

pub returns-in-Fault-clause-answers : goal.returns-in-Fault-clause-answers
returns-in-Fault-clause-answers c = not_read c.args.section c.args.engine.now (reading_of c.args.parsed.now) Syntax c.in-Fault.at (AtByte Syntax c.in-Fault.at) (ap reading_of c.in-Fault.is) refl
