use Rattle.pg_auto.proofs.Stands.{stages_fit}
use Rattle.pg_auto.proofs.laws.stages_fit.Goals as goal

pub returns : goal.returns
returns c = stages_fit
