use Rattle.pg_core.proofs.Replays.{pin_takes}
use Rattle.pg_core.proofs.events.Replayed.pin.Goals as goal

pub returns : goal.returns
returns g c = let p = c.in_ok-pinned.ensures.pinned in pin_takes _ _ _ c.args.seat _ _ c.self.view_is c.requires p.1 p.2 c.in_ok-pinned.ensures.ok
