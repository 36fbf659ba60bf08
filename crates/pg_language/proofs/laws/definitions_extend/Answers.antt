use Rattle.pg_language.proofs.Keeps.{definitions_extend}
use Rattle.pg_language.proofs.laws.definitions_extend.Goals as goal

pub returns : goal.returns
returns c = definitions_extend
