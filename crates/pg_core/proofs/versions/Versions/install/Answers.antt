use Rattle.pg_core.proofs.Good.{install_good}
use Rattle.pg_core.proofs.versions.Versions.install.Goals as goal

pub invariant_of-self : goal.invariant_of-self
invariant_of-self g c = (c.self.invariant.0, c.self.invariant.1, install_good g.B.Base.base g.R.Run.run _ _ c.args.build c.args.base _ _ _ _ c.self.view_is c.self.invariant.2 c.requires.open c.requires.same c.requires.base c.end_build.ensures c.install.ensures c.swap.ensures.x_after)
