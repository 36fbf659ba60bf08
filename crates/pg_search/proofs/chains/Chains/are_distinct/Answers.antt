use Rattle.std.proofs.Common.{subst}
use Rattle.pg_meaning.specs.Bindings.{Distinct}
use Rattle.pg_search.proofs.chains.Chains.are_distinct.Goals as goal

pub returns : goal.returns
returns c = subst Distinct c.self.view_is c.self.invariant.distinct
