use Rattle.std.proofs.Common.{sym, refl, ◌∙◌}
use Rattle.pg_core.proofs.Replays.{abandon_takes}
use Rattle.pg_core.proofs.events.Replayed.abandon.Goals as goal

pub returns-in-Some : goal.returns-in-Some
returns-in-Some g c =
    abandon_takes g.B.Base.base g.R.Run.run c.args.self.now c.self.inside.state c.abandon.new.self c.self.inside.opened c.in-Some.field-0 c.in-Some.field-0.job.build
    c.self.view_is c.self.invariant (sym c.take.ensures.value ∙ c.in-Some.is) refl c.abandon.ensures
