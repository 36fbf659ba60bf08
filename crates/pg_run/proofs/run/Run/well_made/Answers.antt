use Rattle.std.proofs.Common.{subst}
use Rattle.pg_value.specs.Writes.{IsInOrder}
use Rattle.pg_run.proofs.CutLaws.{cut_in_order}
use Rattle.pg_run.proofs.run.Run.well_made.Goals as goal

pub returns-clause-in_order : goal.returns-clause-in_order
returns-clause-in_order c = subst (λ r. IsInOrder r.writes) c.self.view_is (cut_in_order 0 c.self.inside.tables.items c.self.invariant.0)
