use Rattle.pg_auto.proofs.Once.Ends.{ends_by_bindings}
use Rattle.pg_auto.proofs.laws.ends_by_bindings.Goals as goal

pub returns : goal.returns
returns c = ends_by_bindings
