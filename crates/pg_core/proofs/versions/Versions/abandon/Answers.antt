use Rattle.pg_core.proofs.Good.{end_good}
use Rattle.pg_core.proofs.versions.Versions.abandon.Goals as goal

pub invariant_of-self : goal.invariant_of-self
invariant_of-self g c = (c.self.invariant.0, c.self.invariant.1, end_good g.B.Base.base g.R.Run.run _ _ _ c.args.build.seat c.self.invariant.2 c.end_build.ensures)
