use Rattle.pg_core.proofs.Replays.{mark_takes}
use Rattle.pg_core.proofs.events.Replayed.mark.Goals as goal

pub returns : goal.returns
returns g c = mark_takes _ _ _ c.args.session c.self.view_is c.requires c.mark.ensures
