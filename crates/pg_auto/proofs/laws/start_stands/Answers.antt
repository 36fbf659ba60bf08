use Rattle.pg_auto.proofs.Stands.{start_stands}
use Rattle.pg_auto.proofs.laws.start_stands.Goals as goal

pub returns : goal.returns
returns c = start_stands
