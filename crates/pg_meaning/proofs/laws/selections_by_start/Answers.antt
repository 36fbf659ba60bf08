use Rattle.pg_meaning.proofs.ReadLaws.{selections_by_start}
use Rattle.pg_meaning.proofs.laws.selections_by_start.Goals as goal

pub returns : goal.returns
returns c = selections_by_start
