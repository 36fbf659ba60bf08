use Rattle.pg_auto.proofs.Once.Ends.{walks_by_bindings}
use Rattle.pg_auto.proofs.laws.walks_by_bindings.Goals as goal

pub returns : goal.returns
returns c = walks_by_bindings
