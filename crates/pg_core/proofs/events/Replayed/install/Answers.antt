use Rattle.std.proofs.Common.{sym, refl, ◌∙◌}
use Rattle.pg_core.proofs.Replays.{install_takes}
use Rattle.pg_core.proofs.events.Replayed.install.Goals as goal

pub returns-in-Some : goal.returns-in-Some
returns-in-Some g c =
    install_takes g.B.Base.base g.R.Run.run c.args.self.now c.self.inside.state c.install.new.self c.self.inside.opened c.in-Some.field-0 c.in-Some.field-0.job.build c.install.result c.install_reply.result
    c.self.view_is c.self.invariant (sym c.take.ensures.value ∙ c.in-Some.is) refl c.install.ensures c.install_reply.ensures
