use Rattle.pg_script.proofs.Whole.Statements.{scripts_whole}
use Rattle.pg_script.proofs.laws.scripts_are_whole.Goals as goal

pub returns : goal.returns
returns c = scripts_whole
