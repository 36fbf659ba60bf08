use Rattle.std.proofs.Common.{arith}
use Rattle.pg_value.proofs.Texts.{longer_by_one}
use Rattle.pg_value.proofs.short.Short.push_ascii.Goals as goal

pub invariant_of-self : goal.invariant_of-self
invariant_of-self c = (omega arith, longer_by_one _ _ _ _ c.requires c.from.ensures (omega arith) c.self.invariant.1)
