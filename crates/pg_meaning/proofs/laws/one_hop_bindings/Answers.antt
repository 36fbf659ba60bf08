use Rattle.pg_meaning.specs.OneHop.{one_hop_bindings}
use Rattle.pg_meaning.proofs.laws.one_hop_bindings.Goals as goal

pub returns : goal.returns
returns c = one_hop_bindings
