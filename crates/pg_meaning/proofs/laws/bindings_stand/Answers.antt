use Rattle.pg_meaning.proofs.StandingBindings.{bindings_stand}
use Rattle.pg_meaning.proofs.laws.bindings_stand.Goals as goal

pub returns : goal.returns
returns c = bindings_stand
