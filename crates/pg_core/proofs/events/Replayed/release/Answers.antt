use Rattle.pg_core.proofs.Replays.{release_takes}
use Rattle.pg_core.proofs.events.Replayed.release.Goals as goal

pub returns : goal.returns
returns g c = release_takes _ _ _ c.args.seat _ c.self.view_is c.requires c.release.ensures.released c.release.ensures.core
