use Rattle.pg_core.proofs.Replays.{end_takes}
use Rattle.pg_core.proofs.events.Replayed.end_session.Goals as goal

pub returns : goal.returns
returns g c = end_takes _ _ _ c.args.session c.self.view_is c.requires c.end_session.ensures
